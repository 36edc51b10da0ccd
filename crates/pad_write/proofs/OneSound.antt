-- One sound stored: its list, then the entry over it, then its name; or nothing.
-- Assumes nothing.
use Rattle.std.specs.Prelude.{None}
use mathlib.Core.Path.{◌≡◌, refl, sym, ap, ◌∙◌}
use mathlib.Core.List.{List}
use Prim.Native.Nat.{ℕ, ◌+◌, ◌-◌, ◌≤◌}
use native.Mathlib.Omega.{arith}
use lib.ListN.{length}
use lib.Seq.{sets}
use Rattle.common.specs.Stores.{Stored}
use Rattle.common.proofs.Stores.{stored_length}
use Rattle.segment.specs.Records.{Posting, between}
use Rattle.segment.specs.Written.{entry_bytes, postings_bytes}
use Rattle.write_frame.specs.declared.frame.Past.{Past}
use Rattle.write_frame.specs.Steps.{entry_of_list, EntryRoom, EntryStored}
use Rattle.write_segment.proofs.Sets.{between_stored}
use Rattle.pad_lists.specs.declared.sound.Gathered.{Gathered}
use Rattle.pad_write.specs.declared.store.Progress.{Progress}
use Rattle.pad_write.specs.Steps.{gathered, SoundStored, TermRoom, SoundRoom}
use Rattle.pad_write.proofs.Parts.{gathered_count}
use Rattle.pad_write.proofs.Sounds.{name_length}

module _ (text posting_ids counts positions : List ℕ) (got : Gathered) (end : ℕ) (out : List ℕ) (names_at lists_at : ℕ) (p : Progress)
    (room : SoundRoom text posting_ids counts positions got end out names_at lists_at p) where
  abbrev postings : List Posting
  postings = gathered posting_ids counts positions got

  abbrev list : List ℕ
  list = postings_bytes None postings

  abbrev name : List ℕ
  name = between p.from end text

  -- without hits
  pub sound_unused : got.postings ≡ 0
      → SoundStored names_at lists_at name postings got.postings end out p
      (record { list = p.list; entry = p.entry; name = p.name; run = p.run; from = end }) out
  sound_unused z = record {
    from = refl;
    used = λ h. absurd (omega arith);
    unused = λ _. record { left = refl; list = refl; entry = refl; name = refl; run = refl };
  }

  -- with hits
  module _ (some : got.postings ≡ 0 → ⊥) where
    here : TermRoom names_at lists_at list (end - p.from) out p
    here = room.used (omega arith)

    name_size : length name ≡ end - p.from
    name_size = name_length text p.from end room.name_order room.name_inside

    pub list_room : p.list + length list ≤ length out
    list_room = here.room

    module _ {past_list : ℕ} {o₁ : List ℕ} (s : Stored list p.list out past_list o₁) where
      pub entry_room : EntryRoom o₁ p.entry p.name (end - p.from) lists_at p.list past_list
      entry_room = record {
        room = omega (arith, here.entry, here.name);
        starts = here.begun;
        ends = omega (arith, s.past);
        inside = omega (arith, s.past, stored_length s, here.room);
        small_name = here.small_name;
      }

      there : between p.list past_list o₁ ≡ list
      there = rw s.left (between_stored out p.list list s.past (omega (arith, s.past, here.room)))

      module _ {past : Past} {o₂ : List ℕ}
          (e : EntryStored o₁ p.entry p.name (end - p.from) lists_at p.list past_list got.postings p.run past o₂) where
        pub name_room : names_at + p.name + length name ≤ length o₂
        name_room = omega (arith, name_size, here.name, here.begun, here.room, stored_length s, stored_length e.stored)

        entry_is : entry_of_list o₁ p.name (end - p.from) lists_at p.list past_list got.postings
            ≡ entry_bytes p.name (length name) (p.list - lists_at) list (length postings)
        entry_is =
            λ i. entry_bytes p.name (sym name_size i) (p.list - lists_at) (there i)
            (sym (gathered_count posting_ids counts positions got room.lists) i)

        pub sound_used : {next : ℕ} {o₃ : List ℕ} → Stored name (names_at + p.name) o₂ next o₃
            → SoundStored names_at lists_at name postings got.postings end out p
            (record { list = past_list; entry = past.entry; name = p.name + (end - p.from); run = past.run; from = end }) o₃
        sound_used b = record {
          from = refl;
          used = λ _. record {
            left =
                b.left
                ∙ ap (λ (r : List ℕ). sets r (names_at + p.name) name)
                (e.stored.left ∙ (λ i. sets (s.left i) p.entry (entry_is i)));
            list = s.past;
            entry = omega (arith, e.stored.past);
            name = omega (arith, name_size);
            run = e.carried ∙ rw there;
          };
          unused = λ z. absurd (some z);
        }
