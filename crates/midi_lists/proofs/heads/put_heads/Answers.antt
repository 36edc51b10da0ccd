-- The five lists, each by its own function.
use mathlib.Core.Path.{sym, ap, ◌∙◌}
use Prim.Native.Nat.{ℕ}
use native.Mathlib.Omega.{arith}
use Rattle.midi_lists.specs.Heads.{heard, fours}
use Rattle.midi_lists.proofs.Heard.{heard_few, ends_are}
use Rattle.midi_lists.proofs.heads.put_heads.Goals as goal

pub put_ends-requires : goal.put_ends-requires
put_ends-requires c =
    omega (arith, c.requires.ends, heard_few c.args.postings.now)

pub returns : goal.returns
returns c =
    record {
      ids = c.put_ids.ensures;
      lengths = c.put_lengths.ensures;
      text = c.put_names.ensures;
      ends = c.put_ends.ensures ∙ ap (λ (n : ℕ). fours n) c.requires.ends ∙ sym (ends_are (heard c.args.postings.now));
      counts = c.put_counts.ensures;
    }
