-- A pass over a file's hits, an event at a time: what is left to do from a reader on is the whole.
-- Assumes nothing.
use Rattle.std.specs.Prelude.{Err, Ok}
use mathlib.Core.Path.{◌≡◌, refl, sym, ◌∙◌}
use mathlib.Core.List.{List, ◌∷◌}
use Prim.Native.Nat.{ℕ, zero, suc, ◌+◌, ◌≤◌, ◌<◌}
use native.Mathlib.Omega.{arith}
use lib.ListN.{length}
use borrow.Author.Tests.{le-leb, lt-leb, eq-eqb, ne_eqb}
use Rattle.segment.specs.declared.refusal.Refusal.{Refusal}
use Rattle.segment.specs.Results.{Answer, ◌>>=◌}
use Rattle.midi_read.specs.declared.track.Reader.{Reader}
use Rattle.midi_read.specs.declared.track.Hit.{Hit}
use Rattle.segment.specs.Refusals.{midi_file, bar_too_far}
use Rattle.midi_read.specs.Files.{Grid, read_event, bar_of, after, hits_from}
use Rattle.midi_read.specs.declared.track.Step.{Step}
use Rattle.midi_read.specs.declared.track.Step.TheVariants.{Sounds, Silent, Ends}
use Rattle.midi_read.specs.Claims.{EventFine, Moved}
use Rattle.midi_read.specs.Walks.{over, walk}
use Rattle.midi_read.proofs.Numbers.{out}
use Rattle.midi_read.proofs.Fine.{events_fine}

-- ---- the number of events allowed has no part in it, once there is one for each byte left

at_end : (n : ℕ) (g : Grid) (file : List ℕ) (from : Reader) → length file ≤ from.at
    → hits_from n g file from ≡ Err (midi_file from.at)
unfolding hits_from read_event
at_end zero g file from h = refl
at_end (suc n) g file from h = rw (out file from.at 3 0 h)

same_after : (g : Grid) (file : List ℕ) (a b : Reader → Answer (List Hit)) (from : Reader) (e : Step) → EventFine file from e
    → ((next : Reader) → from.at + 2 ≤ next.at → a next ≡ b next) → after g file a e ≡ after g file b e
same_after g file a b from (Sounds h next) (m, t, u) same = rw (same next m.on)
same_after g file a b from (Silent next) m same = same next m.on
same_after g file a b from (Ends past) m same = refl

opened : (n : ℕ) (g : Grid) (file : List ℕ) (from : Reader)
    → hits_from (suc n) g file from ≡ (read_event file from >>= after g file (hits_from n g file))
unfolding hits_from
opened n g file from = refl

enough : (n m : ℕ) (g : Grid) (file : List ℕ) (from : Reader) → length file ≤ n + from.at → length file ≤ m + from.at
    → hits_from n g file from ≡ hits_from m g file from
unfolding hits_from
enough zero m g file from h k = at_end zero g file from (omega arith) ∙ sym (at_end m g file from (omega arith))
enough (suc n) zero g file from h k = at_end (suc n) g file from (omega arith) ∙ sym (at_end zero g file from (omega arith))
enough (suc n) (suc m) g file from h k = turn (read_event file from) refl (enough n m g file)
  where
    turn : (r : Answer Step) → read_event file from ≡ r
        → ((next : Reader) → length file ≤ n + next.at → length file ≤ m + next.at → hits_from n g file next ≡ hits_from m g file next)
        → (r >>= after g file (hits_from n g file)) ≡ (r >>= after g file (hits_from m g file))
    turn (Err x) e ih = refl
    turn (Ok v) e ih = same_after g file _ _ from v (events_fine file from v e) (λ next l. ih next (omega arith) (omega arith))

-- the event, and then the rest
pub unrolled : (g : Grid) (file : List ℕ) (from : Reader)
    → hits_from (length file) g file from ≡ (read_event file from >>= after g file (hits_from (length file) g file))
unrolled g file from =
    enough (length file) (suc (length file)) g file from (omega arith) (omega arith) ∙ opened (length file) g file from

-- where the reader stands after an event
module _ (file : List ℕ) (from : Reader) where
  pub past_hit : {h : Hit} {next : Reader} → read_event file from ≡ Ok (Sounds h next) → EventFine file from (Sounds h next)
  past_hit e = events_fine file from _ e

  pub past_silent : {next : Reader} → read_event file from ≡ Ok (Silent next) → Moved file from next
  past_silent e = events_fine file from _ e

-- ---- the pass

module _ {S : Type 0} (f : S → Hit → S) (g : Grid) (file : List ℕ) (from : Reader) (s : S) {whole : Answer S}
    (inv : walk f g file from s ≡ whole) where
  turn : (read_event file from >>= after g file (hits_from (length file) g file) >>= (λ hs. Ok (over f s hs))) ≡ whole
  turn = rw (unrolled g file from) at inv

  pub walk_hit : {h : Hit} {next : Reader} → read_event file from ≡ Ok (Sounds h next) → bar_of g h ≤ 65535
      → walk f g file next (f s h) ≡ whole
  walk_hit {h} {next} e near =
      collect (hits_from (length file) g file next)
      (rw (e, le-leb (bar_of g h) 65535 near) at turn)
    where
      collect : (r : Answer (List Hit)) → (r >>= (λ hs. Ok (h ∷ hs)) >>= (λ hs. Ok (over f s hs))) ≡ whole
          → (r >>= (λ hs. Ok (over f (f s h) hs))) ≡ whole
      collect (Ok hs) e = e
      collect (Err x) e = e

  pub walk_far : {h : Hit} {next : Reader} → read_event file from ≡ Ok (Sounds h next) → 65535 < bar_of g h
      → Err bar_too_far ≡ whole
  walk_far {h} e far = rw (e, lt-leb (bar_of g h) 65535 far) at turn

  pub walk_silent : {next : Reader} → read_event file from ≡ Ok (Silent next) → walk f g file next s ≡ whole
  walk_silent e = rw e at turn

  pub walk_end : {past : ℕ} → read_event file from ≡ Ok (Ends past) → past ≡ length file → Ok s ≡ whole
  walk_end {past} e is = rw (e, eq-eqb past (length file) is) at turn

  pub walk_open : {past : ℕ} → read_event file from ≡ Ok (Ends past) → (past ≡ length file → ⊥) → Err (midi_file past) ≡ whole
  walk_open {past} e apart = rw (e, ne_eqb past (length file) apart) at turn

  pub walk_refused : {x : Refusal} → read_event file from ≡ Err x → Err x ≡ whole
  walk_refused e = rw e at turn
