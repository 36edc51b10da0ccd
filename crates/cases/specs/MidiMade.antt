-- MIDI files made by hand, and what is asked of them: bars of 16 steps, four to a quarter.
use Rattle.std.specs.Prelude.{Ok, ℕ, ◌/◌, ◌%◌, List, [], ◌∷◌, ◌++◌, length, replicate}
use Rattle.segment.specs.declared.replies.ListTotals.{ListTotals}
use Rattle.segment.specs.Results.{Answer, ◌>>=◌}
use Rattle.calls.specs.Given.{Lists, lists}
use Rattle.midi_read.specs.declared.track.Hit.{Hit}
use Rattle.midi_read.specs.Files.{chunks, hits}
use Rattle.midi_bars.specs.Loudness.{AllLists, beside}
use Rattle.midi_bars.specs.Imports.{import_file, import_all, import_into}
use Rattle.midi_import.specs.Promise.{BarsImported}

-- ---- files

-- MThd, length 6, format 0, one track, and this division
abbrev pub header : (division : ℕ) → List ℕ
header division =
    0x4D ∷ 0x54 ∷ 0x68 ∷ 0x64 ∷ 0x00 ∷ 0x00 ∷ 0x00 ∷ 0x06 ∷ 0x00 ∷ 0x00 ∷ 0x00 ∷ 0x01 ∷ division / 256 ∷ division % 256 ∷ []

-- MTrk, and a length below 65,536
abbrev pub heading : (bytes : ℕ) → List ℕ
heading bytes = 0x4D ∷ 0x54 ∷ 0x72 ∷ 0x6B ∷ 0x00 ∷ 0x00 ∷ bytes / 256 ∷ bytes % 256 ∷ []

-- a file with this track; its first event stands at 22
abbrev pub tune : (division : ℕ) (track : List ℕ) → List ℕ
tune division track = header division ++ heading (length track) ++ track

-- delta time 0, end of track
abbrev pub end : List ℕ
end = 0x00 ∷ 0xFF ∷ 0x2F ∷ 0x00 ∷ []

-- ---- what is asked

-- the lists that the writer takes, whatever the room
abbrev pub taken : (file : List ℕ) → Answer Lists
taken file = import_file 16 4 file

-- the velocities beside the positions, whatever the room
abbrev pub loud : (file : List ℕ) → Answer (List ℕ)
loud file = import_all 16 4 file >>= (λ a. Ok a.velocities)

-- buffers with so many places
abbrev pub room : (ids lengths text ends posting_counts posting_ids position_counts positions velocities : ℕ) → AllLists
room i l t e pc pi kc ps v =
    beside (lists (replicate i 90) (replicate l 91) (replicate t 92) (replicate e 93) (replicate pc 94) (replicate pi 95) (replicate kc 96)
    (replicate ps 97)) (replicate v 98)

-- what a file without hits is read into
abbrev pub no_lists : AllLists
no_lists = beside (lists [] [] [] [] [] [] [] []) []

-- the call, with these buffers lent
abbrev pub into : AllLists → (file : List ℕ) → Answer AllLists
into lent file = import_into 16 4 file lent

-- its promise: of the reply, and of the buffers afterwards
abbrev pub Answered : (file : List ℕ) (lent : AllLists) (r : Answer ListTotals) (left : AllLists) → Type 0
Answered = BarsImported 16 4

-- the reply's four numbers
abbrev pub totals : (bars sounds postings positions : ℕ) → Answer ListTotals
totals b s ps ks = Ok (record { documents = b; terms = s; postings = ps; positions = ks })

-- the call without a place anywhere, so that every other refusal is seen to come before 13
abbrev pub put : (file : List ℕ) → Answer AllLists
put file = into (room 0 0 0 0 0 0 0 0 0) file

-- the hits in file order
abbrev pub heard : (file : List ℕ) → Answer (List Hit)
heard file = chunks 16 4 file >>= (λ g. hits g file)

abbrev pub hit : (tick note velocity : ℕ) → Hit
hit t n v = record { tick = t; note = n; velocity = v }
