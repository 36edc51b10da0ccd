-- What the importer leaves: the lists at the fronts of the buffers.
-- Assumes nothing.
use Rattle.std.specs.Prelude.{Ok}
use mathlib.Core.Path.{◌≡◌, refl, sym, ap₂, subst, ◌∙◌}
use mathlib.Core.List.{List}
use Prim.Native.Nat.{ℕ, ◌≤◌}
use native.Mathlib.Omega.{arith}
use lib.ListN.{length, take, drop, length-append}
use lib.Seq.{take_at}
use Rattle.segment.proofs.Binds.{bind_gives, ok_same}
use Rattle.calls.specs.Given.{Lists}
use Rattle.calls.specs.Replies.{fronted}
use Rattle.midi_bars.specs.Loudness.{AllLists, beside}
use Rattle.midi_bars.specs.Imports.{import_file, import_all, roomy_beside, import_into, fronted_lists, import_left}
use Rattle.midi_bars.proofs.Words.{import_accepted, import_text}
use Rattle.midi_bars.proofs.Loud.{loudness_held, without}
use Rattle.claim_import.specs.Promise.{totals_of}
use Rattle.claim_import.specs.Steps.{fronts, HasFronts}

front : (xs b : List ℕ) (n : ℕ) → length xs ≡ n → take n (fronted xs b) ≡ xs
front xs b n e = take_at xs (drop (length xs) b) n e

front_fits : (xs b : List ℕ) (n : ℕ) → length xs ≡ n → n ≤ length (fronted xs b)
front_fits xs b n e = omega (arith, length-append xs (drop (length xs) b))

-- the call reads what the file holds
pub read_by : (steps quarter : ℕ) (file : List ℕ) (b l : AllLists) → import_into steps quarter file b ≡ Ok l
    → import_all steps quarter file ≡ Ok l
unfolding import_into
read_by steps quarter file b l f =
    let (m, e, f₁) = bind_gives (import_all steps quarter file) _ f in
    let (_, _, f₂) = bind_gives (roomy_beside m b) _ f₁ in
    e ∙ f₂

pub room_by : (steps quarter : ℕ) (file : List ℕ) (b l : AllLists) → import_into steps quarter file b ≡ Ok l → roomy_beside l b ≡ Ok tt
unfolding import_into
room_by steps quarter file b l f =
    let (m, e, f₁) = bind_gives (import_all steps quarter file) _ f in
    let (u, room, f₂) = bind_gives (roomy_beside m b) _ f₁ in
    subst (λ q. roomy_beside q b ≡ Ok tt) (ok_same f₂) room

pub read_into : (steps quarter : ℕ) (file : List ℕ) (b l : AllLists) → import_all steps quarter file ≡ Ok l → roomy_beside l b ≡ Ok tt
    → import_into steps quarter file b ≡ Ok l
unfolding import_into
read_into steps quarter file b l e room = rw (e, room)

module _ (steps quarter : ℕ) (file : List ℕ) (b l : Lists) (one : 1 ≤ steps) (read : import_file steps quarter file ≡ Ok l) where
  pub fronts_are : fronts (totals_of l) (fronted_lists l b) ≡ l
  fronts_are =
      let shape = (import_accepted steps quarter file l one read).shape in
      λ i. record {
        ids = front l.ids b.ids _ refl i;
        lengths = front l.lengths b.lengths _ (sym shape.documents) i;
        text = front l.text b.text _ (import_text steps quarter file l read) i;
        ends = front l.ends b.ends _ refl i;
        posting_counts = front l.posting_counts b.posting_counts _ shape.terms i;
        posting_ids = front l.posting_ids b.posting_ids _ refl i;
        position_counts = front l.position_counts b.position_counts _ shape.counts i;
        positions = front l.positions b.positions _ refl i;
      }

  pub has_fronts : HasFronts (totals_of l) (fronted_lists l b)
  has_fronts =
      let shape = (import_accepted steps quarter file l one read).shape in
      record {
        ids = front_fits l.ids b.ids _ refl;
        lengths = front_fits l.lengths b.lengths _ (sym shape.documents);
        text = front_fits l.text b.text _ (import_text steps quarter file l read);
        ends = front_fits l.ends b.ends _ refl;
        posting_counts = front_fits l.posting_counts b.posting_counts _ shape.terms;
        posting_ids = front_fits l.posting_ids b.posting_ids _ refl;
        position_counts = front_fits l.position_counts b.position_counts _ shape.counts;
        positions = front_fits l.positions b.positions _ refl;
      }

-- the velocities, as many as the positions
pub loud_front : (steps quarter : ℕ) (file : List ℕ) (b l : AllLists) (one : 1 ≤ steps) (read : import_all steps quarter file ≡ Ok l)
    → let q = import_left (Ok l) b in
    beside (fronts (totals_of l.lists) q.lists) (take (length l.lists.positions) q.velocities) ≡ l
loud_front steps quarter file b l one read =
    let (_, _, held) = loudness_held steps quarter file l one read in
    ap₂ beside (fronts_are steps quarter file b.lists l.lists one (without steps quarter file l read))
    (front l.velocities b.velocities _ held.as_many)
