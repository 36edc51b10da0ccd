-- The names of a segment that opens are UTF-8.
-- Assumes nothing.
use Rattle.std.specs.Prelude.{None, Ok, Option, Some}
use mathlib.Core.Path.{◌≡◌, ap}
use mathlib.Core.List.{List}
use mathlib.Core.Logic.{⊎_elim}
use Prim.Native.Nat.{ℕ, zero, suc, ◌*◌}
use lib.Dec.{ltb, eqb}
use lib.ListN.{length, drop}
use Rattle.common.specs.Elements.{◌∈◌}
use Rattle.utf8.specs.Utf8.{IsUtf8, utf8}
use Rattle.utf8.proofs.Text.{grammar_agrees}
use Rattle.segment.specs.Refusals.{term_bytes}
use Rattle.segment.specs.Records.{Entry, Segment, field}
use Rattle.segment.specs.Metadata.{metadata}
use Rattle.segment.specs.Directory.{part, follows, read_list_range, read_entry, read_entries, directory}
use Rattle.segment.specs.Opening.{sections, checksums, contents, open_segment}
use Rattle.segment.specs.Claims as claims
use Rattle.segment.proofs.Binds.{ok_same, bind_gives}
use Rattle.segment.proofs.Accepted.{check_gives}

entry_named : (previous : Option (List ℕ)) (bytes names lists : List ℕ) {e : Entry} → read_entry previous bytes names lists ≡ Ok e
    → IsUtf8 e.name
unfolding read_entry
entry_named previous bytes names lists i =
    let (name, _, j) = bind_gives (part term_bytes (field 4 0 bytes) (field 4 4 bytes) names) _ i in
    let (passed, k) = check_gives (utf8 name) _ _ j in
    let (_, l) = check_gives (ltb 0 (length name)) _ _ k in
    let (_, m) = check_gives (follows previous name) _ _ l in
    let (list, _, n) = bind_gives (read_list_range bytes lists) _ m in
    rw (← ap (λ (x : Entry). x.name) (ok_same n)) ((grammar_agrees name).0 passed)

entries_named : (n : ℕ) (previous : Option (List ℕ)) (dir names lists : List ℕ) {es : List Entry}
    → read_entries n previous dir names lists ≡ Ok es
    → (e : Entry) → e ∈ es → IsUtf8 e.name
unfolding read_entries
entries_named zero previous dir names lists i e in_it = absurd (rw (← ok_same i) at in_it)
entries_named (suc n) previous dir names lists i e in_it =
    let (d, is, j) = bind_gives (read_entry previous dir names lists) _ i in
    let (more, are, k) = bind_gives (read_entries n (Some d.name) (drop 32 dir) names lists) _ j in
    ⊎_elim
    (λ same. rw same (entry_named previous dir names lists is))
    (λ later. entries_named n (Some d.name) (drop 32 dir) names lists are e later)
    (rw (← ok_same k) at in_it)

pub names_utf8 : claims.NamesUtf8
unfolding open_segment contents directory
names_utf8 bytes s o e in_it =
    let (p, _, i) = bind_gives (sections bytes) _ o in
    let (_, _, j) = bind_gives (checksums bytes p) _ i in
    let (ds, _, k) = bind_gives (metadata p.documents p.metadata) _ j in
    let (es, are, l) = bind_gives (directory p.terms p.directory p.names p.lists) _ k in
    let (_, m) = check_gives (eqb (length p.directory) (32 * p.terms)) _ _ are in
    entries_named p.terms None p.directory p.names p.lists m e (rw (← ap (λ (x : Segment). x.entries) (ok_same l)) at in_it)
