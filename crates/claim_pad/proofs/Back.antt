-- The list of bars is a map, so what was saved is what is read back.
-- Assumes nothing.
use Rattle.std.specs.Prelude.{Err, None, Ok, Some}
use mathlib.Core.Path.{◌≡◌, refl, sym, ap, ◌∙◌}
use mathlib.Core.List.{List, map, map-map}
use Prim.Native.Nat.{ℕ, ◌≤◌}
use native.Mathlib.Omega.{arith}
use lib.ListN.{length}
use borrow.Author.Tests.{le-leb, eq-eqb, ne_eqb}
use Rattle.common.specs.Lists.{paired}
use Rattle.common.proofs.Pairs.{lefts, rights, paired_count}
use Rattle.segment.specs.Refusals.{unknown_bar}
use Rattle.segment.specs.Results.{Answer}
use Rattle.segment.proofs.Binds.{bind_gives}
use Rattle.pad_map.specs.Bars.{Bar, key, key_of, with_velocity, bar, hits_in, lookup, without}
use Rattle.pad_map.specs.Acts.{save, read}
use Rattle.pad_map.proofs.Mapped.{added, taken_out}
use Rattle.pad_map.proofs.Saved.{hits_count, save_gives}
use Rattle.pad_words.specs.Words.{held}
use Rattle.pad_words.specs.Calls.{held_bars, pad_save, pad_erase, pad_read}
use Rattle.pad_read.specs.Promise.{bar_sounds, bar_steps, bar_velocities}
use Rattle.pad_record.specs.Promise.{save_answer, erase_answer}
use Rattle.claim_pad.specs.Back.{OthersAsBefore, SavedReadsBack, ErasedIsGone}
use Rattle.claim_pad.proofs.Acting.{holds_these, read_by_map, holds_own}

-- ---- reading goes by the bar under the id alone

read_same : (bars after : List Bar) (id sr tr vr : ℕ) → lookup after id ≡ lookup bars id → read after id sr tr vr ≡ read bars id sr tr vr
unfolding read
read_same bars after id sr tr vr e = rw e

read_found : (bars : List Bar) (id sr tr vr : ℕ) (b : Bar) → lookup bars id ≡ Some b → length b.hits ≤ sr → length b.hits ≤ tr
    → length b.hits ≤ vr
    → read bars id sr tr vr ≡ Ok b
unfolding read
read_found bars id sr tr vr b e h k l =
    rw (e, le-leb (length b.hits) sr h, le-leb (length b.hits) tr k, le-leb (length b.hits) vr l)

read_none : (bars : List Bar) (id sr tr vr : ℕ) → lookup bars id ≡ None → read bars id sr tr vr ≡ Err unknown_bar
unfolding read
read_none bars id sr tr vr e = rw e

-- two pads that hold maps which differ under one id at most
others_same : (id : ℕ) (pad pad' : List ℕ) (bars after : List Bar) → held_bars pad ≡ Ok bars → held_bars pad' ≡ Ok after
    → ((other : ℕ) → (other ≡ id → ⊥) → lookup after other ≡ lookup bars other) → OthersAsBefore id pad pad'
others_same id pad pad' bars after h h' same other apart ss ts vs r ss' ts' vs' p =
    let e : pad_read pad' other (length ss) (length ts) (length vs) ≡ pad_read pad other (length ss) (length ts) (length vs) =
    read_by_map pad' after h' other (length ss) (length ts) (length vs)
    ∙ read_same bars after other (length ss) (length ts) (length vs) (same other apart)
    ∙ sym (read_by_map pad bars h other (length ss) (length ts) (length vs)) in
    record {
      reply = rw e at p.reply;
      sounds_left = rw e at p.sounds_left;
      steps_left = rw e at p.steps_left;
      velocities_left = rw e at p.velocities_left;
    }

-- ---- saved

-- what an answered save says
pub save_accepted : (n : ℕ) (r : Answer (List Bar)) {m : ℕ} → Ok m ≡ save_answer n r → (after : List Bar) × (r ≡ Ok after)
save_accepted n (Ok after) e = (after, refl)
save_accepted n (Err x) e = let z : ◌≡◌ {A = ℕ} 0 1 = cc in absurd (omega arith)

pub erase_accepted : (r : Answer Bar) {m : ℕ} → Ok m ≡ erase_answer r → (b : Bar) × (r ≡ Ok b)
erase_accepted (Ok b) e = (b, refl)
erase_accepted (Err x) e = let z : ◌≡◌ {A = ℕ} 0 1 = cc in absurd (omega arith)

pub pad_save_gives : (pad : List ℕ) (id len : ℕ) (ss ts vs : List ℕ) (after : List Bar) → pad_save pad id len ss ts vs ≡ Ok after
    → (bars : List Bar) × (held_bars pad ≡ Ok bars) × (save bars id len ss ts vs ≡ Ok after)
unfolding pad_save
pad_save_gives pad id len ss ts vs after e = bind_gives (held_bars pad) _ e

pub pad_erase_gives : (pad : List ℕ) (id : ℕ) (b : Bar) → pad_erase pad id ≡ Ok b → (bars : List Bar) × (held_bars pad ≡ Ok bars)
unfolding pad_erase
pad_erase_gives pad id b e = let (bars, h, k) = bind_gives (held_bars pad) _ e in (bars, h)

pub saved_reads_back : SavedReadsBack
saved_reads_back pad id len ss ts vs n pad' p =
    let (after, e) = save_accepted (length ss) (pad_save pad id len ss ts vs) p.reply in
    let (bars, h, k) = pad_save_gives pad id len ss ts vs after e in
    let a = save_gives bars id len ss ts vs after k in
    let is = a.is in
    let h' = p.map after e in
    let b = bar id len (hits_in ss ts vs) in
    let side = a.lists.side_by_side in
    let keys = paired key ss ts in
    let placed : length keys ≡ length ss = paired_count key ss ts side.as_many_steps in
    let beside = placed ∙ side.as_many_velocities in
    let many : length (hits_in ss ts vs) ≡ length ss = hits_count ss ts vs side in
    let keyed : map key_of (hits_in ss ts vs) ≡ keys = lefts with_velocity key_of (λ x y. refl) keys vs beside in
    record {
      same = λ is' it iv r is'' it'' iv'' room more most q.
          let there : lookup after id ≡ Some b = ap (λ m. lookup m id) is ∙ added bars b id a.free ∙ rw (eq-eqb id id refl) in
          let told : pad_read pad' id (length is') (length it) (length iv) ≡ Ok b =
          read_by_map pad' after h' id (length is') (length it) (length iv)
          ∙ read_found after id (length is') (length it) (length iv) b there (omega arith)
          (omega (arith, side.as_many_steps)) (omega (arith, side.as_many_velocities)) in
          let sounds : bar_sounds b ≡ ss =
          sym (map-map (λ k. k.sound) key_of b.hits) ∙ ap (map (λ k. k.sound)) keyed
          ∙ lefts key (λ k. k.sound) (λ x y. refl) ss ts side.as_many_steps in
          let steps : bar_steps b ≡ ts =
          sym (map-map (λ k. k.step) key_of b.hits) ∙ ap (map (λ k. k.step)) keyed
          ∙ rights key (λ k. k.step) (λ x y. refl) ss ts side.as_many_steps in
          let velocities : bar_velocities b ≡ vs = rights with_velocity (λ h. h.velocity) (λ x y. refl) keys vs beside in (
            rw (told, many) at q.reply,
            rw (told, sounds) at q.sounds_left,
            rw (told, steps) at q.steps_left,
            rw (told, velocities) at q.velocities_left,
          );
      others = others_same id pad pad' bars after h h'
          (λ other apart. ap (λ m. lookup m other) is ∙ added bars b other a.free ∙ rw (ne_eqb id other (λ s. apart (sym s))));
    }

-- ---- erased

pub erased_is_gone : ErasedIsGone
erased_is_gone pad id n pad' p =
    let (b, e) = erase_accepted (pad_erase pad id) p.reply in
    let (bars, h) = pad_erase_gives pad id b e in
    let h' = p.map b e in
    record {
      unknown = λ ss ts vs r ss' ts' vs' q.
          let none_there : lookup (without id (held pad)) id ≡ None = taken_out (held pad) id id ∙ rw (eq-eqb id id refl) in
          let told : pad_read pad' id (length ss) (length ts) (length vs) ≡ Err unknown_bar =
          read_by_map pad' (without id (held pad)) h' id (length ss) (length ts) (length vs)
          ∙ read_none (without id (held pad)) id (length ss) (length ts) (length vs) none_there in
          (rw told at q.reply, rw told at q.sounds_left, rw told at q.steps_left, rw told at q.velocities_left);
      others = others_same id pad pad' (held pad) (without id (held pad))
          (holds_own pad (holds_these pad bars h).0) h'
          (λ other apart. taken_out (held pad) id other ∙ rw (ne_eqb id other (λ s. apart (sym s))));
    }
