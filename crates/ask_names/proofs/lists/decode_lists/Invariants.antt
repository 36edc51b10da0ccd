use mathlib.Core.Path.{◌≡◌}
use lib.ListN.{drop}
use Rattle.ask_names.specs.Lists.{decode_each, documents_in}
use Rattle.ask_names.proofs.lists.decode_lists.Given as goal

abbrev pub invariant-loop-list : goal.invariant-loop-list
invariant-loop-list l =
    decode_each (documents_in l.bytes l.at) l.bytes (drop l.list-index l.lists)
    ≡ decode_each (documents_in l.bytes l.at) l.bytes l.lists
