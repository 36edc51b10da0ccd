-- The writer accepts exactly where document 01 names no refusal, and then it has written the segment's bytes.
-- Assumes nothing.
use Rattle.std.specs.Prelude.{Ok}
use mathlib.Core.Path.{◌≡◌}
use mathlib.Core.List.{List}
use Prim.Native.Nat.{ℕ}
use lib.Dec.{leb}
use lib.ListN.{length}
use borrow.Author.Tests.{leb-true, le-leb}
use Rattle.calls.specs.Given.{Lists, given}
use Rattle.calls.specs.Checks.{check_lists}
use Rattle.segment.proofs.Binds.{bind_gives, ok_same}
use Rattle.segment.proofs.Accepted.{check_gives}
use Rattle.calls.proofs.Passing.{checks_exactly}
use Rattle.segment.specs.Written.{segment_bytes}
use Rattle.calls.specs.Writing.{write}
use Rattle.calls.specs.Acceptance.{Writable}
use Rattle.calls.specs.Claims.{AcceptsExactly}

module _ (l : Lists) (room : ℕ) where
  gives : (bytes : List ℕ) → write l room ≡ Ok bytes → Writable l room × (segment_bytes (given l) ≡ bytes)
  unfolding write
  gives bytes e =
      let r = bind_gives (check_lists l) _ e in
      let enough = check_gives (leb (length (segment_bytes (given l))) room) _ _ r.2 in
      (record { lists = (checks_exactly l).0 r.1; room_enough = leb-true _ _ enough.0 }, ok_same enough.1)

  from : Writable l room → write l room ≡ Ok (segment_bytes (given l))
  unfolding write
  from n = rw ((checks_exactly l).1 n.lists, le-leb _ _ n.room_enough)

  pub accepted_gives : {bytes : List ℕ} → write l room ≡ Ok bytes → Writable l room
  accepted_gives e = (gives _ e).0

  pub accepted_is : {bytes : List ℕ} → write l room ≡ Ok bytes → segment_bytes (given l) ≡ bytes
  accepted_is e = (gives _ e).1

pub accepts_exactly : AcceptsExactly
accepts_exactly l room = (λ a. accepted_gives l room a.1, λ n. (segment_bytes (given l), from l room n))
