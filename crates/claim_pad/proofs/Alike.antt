-- Writing out goes by the map, and by its bars' sounds and steps alone.
-- Assumes nothing.
use Rattle.segment.specs.Results.{Answer}
use mathlib.Core.Path.{◌≡◌, sym, ◌∙◌}
use mathlib.Core.List.{List}
use Prim.Native.Nat.{ℕ}
use Rattle.pad_map.specs.Claims.{BarsAlike}
use Rattle.pad_map.proofs.Alike.{velocity_unwritten}
use Rattle.pad_words.specs.Words.{held}
use Rattle.pad_words.specs.Whole.{Whole}
use Rattle.pad_words.specs.Calls.{pad_write}
use Rattle.pad_words.proofs.Exactly.{whole_exactly}
use Rattle.pad_write.specs.Promise.{PadWritten}
use Rattle.claim_pad.specs.Claims.{WrittenAlike}
use Rattle.claim_pad.proofs.Acting.{holds_own, write_by_map}

same_words : (pad other : List ℕ) → Whole pad → Whole other → BarsAlike (held pad) (held other) → (text ends : List ℕ) (room : ℕ)
    → pad_write pad text ends room ≡ pad_write other text ends room
same_words pad other w v a text ends room =
    write_by_map pad (held pad) (holds_own pad ((whole_exactly pad).1 w)) text ends room
    ∙ velocity_unwritten (held pad) (held other) a text ends room
    ∙ sym (write_by_map other (held other) (holds_own other ((whole_exactly other).1 v)) text ends room)

carried : (pad other text ends out : List ℕ) (r : Answer ℕ) (out' : List ℕ)
    → ((room : ℕ) → pad_write pad text ends room ≡ pad_write other text ends room)
    → PadWritten pad text ends out r out' → PadWritten other text ends out r out'
carried pad other text ends out r out' same p = record { reply = rw (same _) at p.reply; left = rw (same _) at p.left }

pub written_alike : WrittenAlike
written_alike pad other w v a text ends out r out' =
    let same = same_words pad other w v a text ends in (
      carried pad other text ends out r out' same,
      carried other pad text ends out r out' (λ room. sym (same room)),
    )
