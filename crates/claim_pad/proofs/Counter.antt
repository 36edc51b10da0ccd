-- Words that are a pad store the sum, and after any calls the words are a pad, so that the number is the map's.
-- Assumes nothing.
use Rattle.std.specs.Prelude.{Err, None, Ok, Option, Some}
use mathlib.Core.Path.{◌≡◌, refl, sym, ap, ◌∙◌}
use mathlib.Core.List.{List}
use Prim.Native.Nat.{ℕ, ◌+◌}
use native.Mathlib.Omega.{arith}
use lib.ListN.{length}
use Rattle.segment.specs.Results.{Answer}
use Rattle.segment.specs.declared.refusal.Refusal.{Refusal}
use Rattle.segment.proofs.Binds.{refuse_ok}
use Rattle.calls.specs.Replies.{length_of_written, filled}
use Rattle.pad_map.specs.Bars.{Bar, bar, hits_in, lookup, hits_in_all}
use Rattle.pad_map.specs.Acts.{found}
use Rattle.pad_map.proofs.Mapped.{insert_counts}
use Rattle.pad_map.proofs.Saved.{hits_count, save_gives}
use Rattle.pad_map.proofs.Room.{room_given_back}
use Rattle.pad_words.specs.Words.{held}
use Rattle.pad_words.specs.Whole.{Whole}
use Rattle.pad_words.specs.Calls.{pad_save, pad_erase, saved_words, erased_words}
use Rattle.pad_words.proofs.Wholes.{total_is}
use Rattle.pad_words.proofs.Exactly.{whole_exactly}
use Rattle.pad_read.specs.Counter.{pad_hits}
use Rattle.pad_read.specs.Promise.{read_answer, bar_sounds, bar_steps, bar_velocities}
use Rattle.pad_record.specs.Promise.{save_answer, erase_answer}
use Rattle.claim_pad.specs.Counter.{ShowsTheSum, ShowsFromEmpty, SavingAdds, ErasingTakesOff, RefusalsLeave, WrongTotal}
use Rattle.claim_pad.proofs.Acting.{holds_these, erase_by_map, shown, acts_as_map, from_empty}
use Rattle.claim_pad.proofs.Back.{save_accepted, erase_accepted, pad_save_gives, pad_erase_gives}
use Rattle.claim_pad.proofs.Refused.{broken_exactly}

-- ---- any calls

pub shows_the_sum : ShowsTheSum
shows_the_sum es pad pad' w run =
    let m = acts_as_map es pad pad' w run in
    record { as_held = sym m.whole.total; as_mapped = sym m.whole.total ∙ ap hits_in_all m.holds }

pub shows_from_empty : ShowsFromEmpty
shows_from_empty es pad pad' empty run =
    let m = from_empty es pad pad' empty run in
    record { as_held = sym m.whole.total; as_mapped = sym m.whole.total ∙ ap hits_in_all m.holds }

-- ---- one call

pub saving_adds : SavingAdds
saving_adds pad id len ss ts vs n pad' p =
    let (after, e) = save_accepted (length ss) (pad_save pad id len ss ts vs) p.reply in
    let (bars, h, k) = pad_save_gives pad id len ss ts vs after e in
    let a = save_gives bars id len ss ts vs after k in
    let many : length (hits_in ss ts vs) ≡ length ss = hits_count ss ts vs a.lists.side_by_side in
    let told : ◌≡◌ {A = Answer ℕ} (Ok n) (Ok (length ss)) = rw e at p.reply in
    let same : n ≡ length ss = cc in
    let before = shown pad bars h in
    let now : pad_hits pad' ≡ length (hits_in ss ts vs) + hits_in_all bars =
    shown pad' after (p.map after e) ∙ ap hits_in_all a.is ∙ (insert_counts (bar id len (hits_in ss ts vs)) bars).1 in
    omega (arith, many, same, before, now)

-- a bar that was found is the one under its id
found_under : (o : Option Bar) (b : Bar) → found o ≡ Ok b → o ≡ Some b
found_under None b e = refuse_ok e
found_under (Some c) b e = cc

pub erasing_takes_off : ErasingTakesOff
erasing_takes_off pad id n pad' p =
    let (b, e) = erase_accepted (pad_erase pad id) p.reply in
    let (bars, h) = pad_erase_gives pad id b e in
    let (w, is) = holds_these pad bars h in
    let there = found_under (lookup bars id) b (sym (erase_by_map pad bars h id) ∙ e) in
    let there' : lookup (held pad) id ≡ Some b = ap (λ m. lookup m id) is ∙ there in
    let (fewer, sum) = room_given_back (held pad) id b ((whole_exactly pad).0 w).ids_rise there' in
    let told : ◌≡◌ {A = Answer ℕ} (Ok n) (Ok (length b.hits)) = rw e at p.reply in
    let same : n ≡ length b.hits = cc in
    let before = total_is pad w in
    let now = shown pad' _ (p.map b e) in
    omega (arith, sum, same, before, now)

-- ---- refusals

save_refused : (n : ℕ) (r : Answer (List Bar)) (x : Refusal) (pad : List ℕ) → Err x ≡ save_answer n r → saved_words r pad ≡ pad
save_refused n (Ok after) x pad e = let z : ◌≡◌ {A = ℕ} 0 1 = cc in absurd (omega arith)
save_refused n (Err y) x pad e = refl

erase_refused : (id : ℕ) (r : Answer Bar) (x : Refusal) (pad : List ℕ) → Err x ≡ erase_answer r → erased_words id r pad ≡ pad
erase_refused id (Ok b) x pad e = let z : ◌≡◌ {A = ℕ} 0 1 = cc in absurd (omega arith)
erase_refused id (Err y) x pad e = refl

pub refusals_leave : RefusalsLeave
refusals_leave pad pad' x = record {
  saving = λ id len ss ts vs p. ap pad_hits (p.words ∙ save_refused (length ss) (pad_save pad id len ss ts vs) x pad p.reply);
  erasing = λ id p. ap pad_hits (p.words ∙ erase_refused id (pad_erase pad id) x pad p.reply);
}

-- ---- 20

pub wrong_total : WrongTotal
wrong_total pad differs =
    let b = broken_exactly pad in
    let no_pad : Whole pad → ⊥ = λ w. differs (sym w.total) in
    record {
      save = λ id len ss ts vs r pad' p.
          let e = (b.save id len ss ts vs).1 no_pad in
          (p.reply ∙ ap (save_answer (length ss)) e, p.words ∙ ap (λ q. saved_words q pad) e);
      erase = λ id r pad' p.
          let e = (b.erase id).1 no_pad in
          (p.reply ∙ ap erase_answer e, p.words ∙ ap (λ q. erased_words id q pad) e);
      read = λ id ss ts vs r ss' ts' vs' p.
          let e = (b.read id (length ss) (length ts) (length vs)).1 no_pad in
          let sounds = p.sounds_left ∙ ap (λ q. filled bar_sounds q ss) e in
          let steps = p.steps_left ∙ ap (λ q. filled bar_steps q ts) e in
          let velocities = p.velocities_left ∙ ap (λ q. filled bar_velocities q vs) e in
          (p.reply ∙ ap read_answer e, sounds, steps, velocities);
      write = λ text ends out r out' p.
          let e = (b.write text ends (length out)).1 no_pad in
          (p.reply ∙ ap length_of_written e, p.left ∙ ap (λ q. filled (λ xs. xs) q out) e);
    }
