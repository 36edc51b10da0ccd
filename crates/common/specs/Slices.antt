-- A slice that a call was lent, as definitions over several of them name it; a contract writes `.now`, `.old` and `.new`.
use Rattle.std.specs.Borrow.{Bor, MutBor}
use denote.Triple.Both.{Both}

-- what a slice that is only read held when the call began
abbrev pub was : {X Y : Type 0} → Both (Bor X) Y → X
was b = b.entry.now

-- what a slice that is written held when the call began
abbrev pub held : {X Y : Type 0} → Both (MutBor X) Y → X
held b = b.entry.now

-- what the call left in it
abbrev pub left : {X Y : Type 0} → Both Y (MutBor X) → X
left b = b.exit.now
