-- Read off the front of bytes: a stored number, and a section's part that stands between two others.
-- Assumes nothing.
use Rattle.segment.specs.declared.refusal.Section.{Section}
use Rattle.std.specs.Prelude.{Ok}
use mathlib.Core.Path.{◌≡◌, sym, ap, ◌∙◌}
use mathlib.Core.List.{List, ◌++◌}
use Prim.Native.Nat.{ℕ, ◌+◌, ◌^◌, ◌<◌}
use native.Mathlib.Omega.{arith}
use lib.ListN.{length, length-append}
use lib.Seq.{drop-append_seam, drop_at, take_at}
use borrow.Author.Tests.{lt-ltb, le-leb}
use Rattle.leb128.specs.Leb128.{encoded}
use Rattle.leb128.proofs.Shortest.{read_back}
use Rattle.segment.specs.Records.{number}
use Rattle.segment.specs.Directory.{part}

pub number_back : (section : Section) (index x : ℕ) (rest : List ℕ) → x < 2 ^ 32
    → number section index (encoded x ++ rest) ≡ Ok (record { got = x; rest = rest })
number_back section index x rest h = rw (read_back x rest h, drop-append_seam (encoded x) rest)

pub part_between : (section : Section) (a b c : List ℕ) (at n : ℕ) → at ≡ length a → n ≡ length b → length (a ++ (b ++ c)) < 2 ^ 64
    → part section at n (a ++ (b ++ c)) ≡ Ok b
unfolding part
part_between section a b c at n is_at is_n h =
    let l : length (a ++ (b ++ c)) ≡ length a + (length b + length c) =
    length-append a (b ++ c) ∙ ap (λ (k : ℕ). length a + k) (length-append b c) in
    rw (
      lt-ltb (at + n) (2 ^ 64) (omega arith),
      le-leb (at + n) (length (a ++ (b ++ c))) (omega arith),
      drop_at a (b ++ c) at (sym is_at),
      take_at b c n (sym is_n),
    )
