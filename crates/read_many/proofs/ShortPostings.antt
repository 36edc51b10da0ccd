-- A short posting told by one word is read by the definitions.
-- Assumes nothing.
use Rattle.std.specs.Prelude.{None, Some}
use mathlib.Core.Path.{◌≡◌, refl, sym, ap, ◌∙◌}
use mathlib.Core.List.{List, [], ◌∷◌, ◌++◌}
use Prim.Native.Nat.{ℕ, zero, suc, ◌+◌, ◌-◌, ◌*◌, ◌/◌, ◌%◌, ◌^◌, ◌≤◌, ◌<◌}
use native.Mathlib.Omega.{arith}
use lib.Bits.{bit_and}
use lib.ListN.{length, take, drop, get_or, length-drop, take-append-drop}
use lib.Seq.{get_or-drop, get_or-take, drop-drop, take-take, length-take-le}
use borrow.Author.Tests.{lt-ltb}
use Rattle.common.specs.Lists.{total}
use Rattle.common.proofs.Bytes.{Bytes, one, each_below}
use Rattle.segment.specs.Records.{little_endian, field}
use Rattle.segment.specs.Postings.{read_positions}
use Rattle.read_many.specs.Steps.{Leaves, Placed, Short}
use Rattle.read_many.proofs.Words.{first_byte, other_bytes, bytes_taken, word_taken, word_byte, all_low, highs, all_up, mask, word_sum}
use Rattle.read_many.proofs.Passing.{one_byte, one_more, posted_of}

-- ---- gaps of one byte each

module _ (len : ℕ) (small : len < 2 ^ 32) (rest : List ℕ) where
  placed_later : (gs : List ℕ) (p : ℕ) → ((i : ℕ) → i < length gs → 0 < get_or gs i 0) → ((i : ℕ) → get_or gs i 0 < 32) → p + total gs < len
      → Leaves (λ index. read_positions (length gs) index len (Some p) (gs ++ rest)) rest
  unfolding read_positions
  placed_later [] p up low h = λ index. ([], refl)
  placed_later (g ∷ gs) p up low h =
      let b = low 0 in
      let u = up 0 (omega arith) in
      one_more (g ∷ gs ++ rest) 0 len (one_byte (g ∷ gs ++ rest) 0 g 1 (omega arith) refl (omega arith) refl) small (Some p) (p + g) refl
      (lt-ltb p (p + g) (omega arith)) (omega arith) (length gs) rest
      (placed_later gs (p + g) (λ i j. up (suc i) (omega arith)) (λ i. low (suc i)) (omega arith))

  placed_all : (g : ℕ) (gs : List ℕ) → g < 32 → ((i : ℕ) → i < length gs → 0 < get_or gs i 0) → ((i : ℕ) → get_or gs i 0 < 32)
      → g + total gs < len → Placed (suc (length gs)) len (g ∷ gs ++ rest) rest
  placed_all g gs b up low h =
      one_more (g ∷ gs ++ rest) 0 len (one_byte (g ∷ gs ++ rest) 0 g 1 (omega arith) refl (omega arith) refl) small None g refl
      refl (omega arith) (length gs) rest (placed_later gs g up low h)

-- ---- the tests of a word

-- the gaps of k + 1 positions behind the number of positions, and the byte behind them
pub record Tested (word gaps len k : ℕ) : Type 0 where
  pub few : k ≤ 5
  pub count : word % 256 ≡ suc k
  pub cut : gaps ≡ word / 256 % 2 ^ (8 * suc k)
  pub low : bit_and gaps 0xe0e0e0e0e0e0 ≡ 0
  pub up : bit_and (gaps / 256 + 0x7f7f7f7f7f) (highs k) ≡ highs k
  pub sum : gaps % 255 < len

module _ (len : ℕ) (small : len < 2 ^ 32) where
  told : (bs : List ℕ) {gaps k : ℕ} → Bytes bs → 8 ≤ length bs → Tested (little_endian (take 8 bs)) gaps len k
      → (get_or bs 0 0 ≡ suc k) × Placed (suc k) len (drop 1 bs) (drop (suc (suc k)) bs)
      × (little_endian (take 8 bs) / 256 / 2 ^ (8 * suc k) % 256 ≡ get_or bs (suc (suc k)) 0)
  told [] bytes h t = absurd (omega arith)
  told (b ∷ []) bytes h t = absurd (omega arith)
  told (b ∷ g ∷ l) {gaps} {k} (one b_small (one g_small bytes)) h t =
      let few = t.few in
      let rest = g + 256 * little_endian (take 6 l) in
      let first : (b + 256 * rest) % 256 ≡ b = first_byte b rest b_small in
      let others : (b + 256 * rest) / 256 ≡ rest = other_bytes b rest b_small in
      let part : Bytes (g ∷ take 6 l) = one g_small (bytes_taken 6 l bytes) in
      let cut : gaps ≡ g + 256 * little_endian (take k l) = t.cut ∙ rw others
      (word_taken (suc k) (g ∷ take 6 l) part ∙ rw (take-take k 6 l (omega arith))) in
      let long : length (take k l) ≡ k = length-take-le k l (omega arith) in
      let gs = g ∷ take k l in
      let low : (i : ℕ) → get_or gs i 0 < 32 = all_low 6 gs (one g_small (bytes_taken k l bytes)) (omega arith) (rw cut at t.low) in
      let later : (g + 256 * little_endian (take k l)) / 256 ≡ little_endian (take k l)
      = other_bytes g (little_endian (take k l)) g_small in
      let up : (i : ℕ) → i < k → 0 < get_or (take k l) i 0 = all_up k 5 (take k l) (omega arith) (omega arith)
      (λ i. let x = low (suc i) in omega arith) (rw (cut, later) at t.up) in
      let sum : g + total (take k l) < len = rw (cut, word_sum gs low (omega arith)) at t.sum in
      let placed = placed_all len small (drop k l) g (take k l) (low 0) (λ i j. up i (omega arith)) (λ i. low (suc i)) sum in (
        sym first ∙ t.count,
        rw (long, take-append-drop k l) at placed,
        rw others (word_byte (suc k) (g ∷ take 6 l) part ∙ get_or-take 6 l k 0 (omega arith)),
      )

module _ (list : List ℕ) (at len : ℕ) (bytes : (i : ℕ) → get_or list i 0 < 256) (room : at + 8 ≤ length list) (small : len < 2 ^ 32) where
  -- the code's tests
  pub short_told : (word gaps end high count next : ℕ) → word ≡ field 8 at list → count ≡ word % 256 → 0 < count → count ≤ 6
      → end ≡ 2 ^ (8 * count) → gaps ≡ word / 256 % end → bit_and gaps 0xe0e0e0e0e0e0 ≡ 0
      → high ≡ 0x808080808080 / 2 ^ (56 - 8 * count) → bit_and (gaps / 256 + 0x7f7f7f7f7f) high ≡ high → gaps % 255 < len
      → next ≡ word / 256 / end % 256 → 0 < next → next < 128 → Short list at len count
  short_told word gaps end high zero next w c h few e cut low m up sum n next_up next_low = absurd (omega arith)
  short_told word gaps end high (suc k) next w c h few e cut low m up sum n next_up next_low =
      let below : (i : ℕ) → get_or (drop at list) i 0 < 256 = λ i. rw get_or-drop (bytes (at + i)) in
      let one_less : suc k - 1 ≡ k = omega arith in
      let is_high : high ≡ highs k = m ∙ mask (suc k) (omega arith) few ∙ ap highs one_less in
      let (count, placed, behind) = told len small (drop at list) {gaps = gaps} {k = k} (each_below (drop at list) below)
      (omega (arith, length-drop at list))
      (record {
        few = omega arith;
        count = rw (← w) (sym c);
        cut = rw (← w, ← e) cut;
        low = low;
        up = rw is_high at up;
        sum = sum;
      }) in
      let further : at + suc (suc k) ≡ at + 1 + suc k = omega arith in
      let z : at + 0 ≡ at = omega arith in
      let here : get_or list at 0 ≡ suc k = ap (λ (j : ℕ). get_or list j 0) (sym z) ∙ sym (get_or-drop at list 0 0) ∙ count in
      let gap : next ≡ get_or list (at + 1 + suc k) 0
      = n ∙ rw (w, e) (behind ∙ get_or-drop at list (suc (suc k)) 0 ∙ ap (λ (j : ℕ). get_or list j 0) further) in
      record {
        room = omega arith;
        posted = posted_of list at (one_byte list at (suc k) (at + 1) (omega arith) (sym here) (omega arith) refl) (omega arith)
            (rw (drop-drop 1 at list, drop-drop (suc (suc k)) at list, further) at placed);
        low = rw (← gap) next_low;
        up = rw (← gap) next_up;
      }
