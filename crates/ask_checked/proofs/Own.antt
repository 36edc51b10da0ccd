-- A handle that is used and that checking answered for these bytes: its layout is the segment's own.
-- Assumes nothing.
use mathlib.Core.Path.{◌≡◌}
use mathlib.Core.List.{List}
use Prim.Native.Nat.{ℕ}
use lib.Dec.{eqb}
use borrow.Author.Tests.{eqb-true}
use Rattle.read_open.specs.declared.header.Layout.{Layout}
use Rattle.handle.specs.declared.handle.Handle.{Handle}
use Rattle.handle.specs.Handles.{HandleOf, Usable, layout_of}
use Rattle.handle.proofs.Handles.{vouches}
use Rattle.ask_checked.specs.Steps.{IsOwn}

-- `sure` is that the level is 2
pub own_handle : (bytes : List ℕ) (h : Handle) (l : Layout) → l ≡ layout_of h → Usable bytes h → HandleOf bytes h
    → IsOwn bytes l (eqb h.level 2)
own_handle bytes h l e u of =
    let v = vouches bytes of u.lowest in
    rw e
    (record { segment = v.segment; opens = v.opens; is_open = v.is_open; lists = λ t. v.lists (eqb-true h.level 2 t) })
