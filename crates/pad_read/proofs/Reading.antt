-- Reading back: each refusal, and the bar.
-- Assumes nothing.
use Rattle.std.specs.Prelude.{Err, None, Ok}
use mathlib.Core.Path.{◌≡◌, sym, ap, ◌∙◌}
use mathlib.Core.Bool.{true, false}
use mathlib.Core.List.{List, map}
use Prim.Native.Nat.{ℕ, ◌+◌, ◌≤◌, ◌<◌}
use native.Mathlib.Omega.{arith}
use lib.ListN.{length, drop, get_or}
use borrow.Author.Tests.{le-leb, lt-leb}
use Rattle.common.proofs.Kept.{map_same}
use Rattle.segment.specs.declared.refusal.Refusal.{Refusal}
use Rattle.segment.specs.Refusals.{no_room, broken_pad, unknown_bar}
use Rattle.calls.specs.Replies.{fronted}
use Rattle.pad_map.specs.Bars.{Hit}
use Rattle.pad_map.specs.Rules.{hits_fine}
use Rattle.pad_map.specs.Acts.{read}
use Rattle.pad_map.proofs.Ordered.{fine_exactly}
use Rattle.pad_words.specs.Words.{hits_of, held}
use Rattle.pad_words.specs.Whole.{whole}
use Rattle.pad_words.specs.Calls.{held_bars, pad_read}
use Rattle.pad_words.specs.Steps.{place_from}
use Rattle.pad_words.proofs.Steps.{hits_many, bar_at}
use Rattle.pad_words.proofs.Found.{not_held, looked, found_fine}
use Rattle.pad_read.specs.Promise.{BarReadBack}
use Rattle.pad_read.specs.Steps.{low_byte, HitsFilled}

-- a velocity within the rules is its low byte
velocities_low : (len : ℕ) (hits : List Hit) → hits_fine len None hits ≡ true
    → map (λ h. low_byte h.velocity) hits ≡ map (λ h. h.velocity) hits
velocities_low len hits t =
    map_same (λ h. low_byte h.velocity) (λ h. h.velocity) hits (λ h m. omega (arith, ((fine_exactly len hits).0 t).velocities h m))

module _ (pad : List ℕ) (id : ℕ) where
  pub read_broken : (a b c : ℕ) → whole pad ≡ false → pad_read pad id a b c ≡ Err broken_pad
  unfolding pad_read held_bars
  read_broken a b c e = rw e

  module _ (w : whole pad ≡ true) where
    pub read_unknown : (a b c : ℕ) {p : ℕ} → place_from 2 (held pad) id ≡ Err p → pad_read pad id a b c ≡ Err unknown_bar
    unfolding pad_read held_bars read
    read_unknown a b c q = rw (w, not_held pad id w q)

    module _ {p : ℕ} (q : place_from 2 (held pad) id ≡ Ok p) {n : ℕ} (is : n ≡ get_or pad (p + 2) 0) where
      many : length (hits_of (get_or pad (p + 2) 0) (drop (p + 3) pad)) ≡ n
      many = hits_many (get_or pad (p + 2) 0) (drop (p + 3) pad) ∙ sym is

      module _ (a b c : ℕ) where
        pub read_first : a < n → pad_read pad id a b c ≡ Err (no_room 1 n)
        unfolding pad_read held_bars read
        read_first h = rw (w, looked pad id w q, many, lt-leb n a h)

        pub read_second : n ≤ a → b < n → pad_read pad id a b c ≡ Err (no_room 2 n)
        unfolding pad_read held_bars read
        read_second h k = rw (w, looked pad id w q, many, le-leb n a h, lt-leb n b k)

        pub read_third : n ≤ a → n ≤ b → c < n → pad_read pad id a b c ≡ Err (no_room 3 n)
        unfolding pad_read held_bars read
        read_third h k l = rw (w, looked pad id w q, many, le-leb n a h, le-leb n b k, lt-leb n c l)

        pub read_fine : n ≤ a → n ≤ b → n ≤ c → pad_read pad id a b c ≡ Ok (bar_at pad p)
        unfolding pad_read held_bars read
        read_fine h k l = rw (w, looked pad id w q, many, le-leb n a h, le-leb n b k, le-leb n c l)

  module _ (ss ts vs : List ℕ) where
    pub was_refused : {x : Refusal} → pad_read pad id (length ss) (length ts) (length vs) ≡ Err x
        → BarReadBack pad id ss ts vs (Err x) ss ts vs
    was_refused e = record { reply = rw e; sounds_left = rw e; steps_left = rw e; velocities_left = rw e }

    pub was_read : (w : whole pad ≡ true) {p : ℕ} → place_from 2 (held pad) id ≡ Ok p → {n : ℕ} → n ≡ get_or pad (p + 2) 0
        → n ≤ length ss → n ≤ length ts → n ≤ length vs → {ss' ts' vs' : List ℕ}
        → HitsFilled (hits_of n (drop (p + 3) pad)) ss ts vs ss' ts' vs'
        → BarReadBack pad id ss ts vs (Ok (record { hits = n; len = get_or pad (p + 1) 0 })) ss' ts' vs'
    was_read w {p} q {n} is a b c f =
        let hs = hits_of (get_or pad (p + 2) 0) (drop (p + 3) pad) in
        let e = read_fine w q is (length ss) (length ts) (length vs) a b c in
        record {
          reply = rw (e, many w q is);
          sounds_left = rw e (f.sounds_left ∙ rw is);
          steps_left = rw e (f.steps_left ∙ rw is);
          velocities_left =
              rw e (f.velocities_left ∙ rw is
              (ap (λ (l : List ℕ). fronted l vs) (velocities_low (get_or pad (p + 1) 0) hs (found_fine pad id w q))));
        }
