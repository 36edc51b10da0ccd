-- A refusal by its three digits, as the cases have it: kind, which, index. Digits that are no refusal's are `no_refusal`, which no call answers,
-- so that a case with a wrong digit fails; `numbers_back` has that every refusal is the one with its numbers.
use Rattle.std.specs.Prelude.{ℕ, ◌≡◌, refl, cond, eqb, Err}
use Rattle.segment.specs.declared.refusal.Section.{Section}
use Rattle.segment.specs.declared.refusal.Section.TheVariants as section
use Rattle.segment.specs.declared.refusal.Reason.{Reason}
use Rattle.segment.specs.declared.refusal.Reason.TheVariants as reason
use Rattle.segment.specs.declared.refusal.Refusal.{Refusal}
use Rattle.segment.specs.declared.refusal.Refusal.TheVariants as kind
use Rattle.segment.specs.Results.{Answer}
use Rattle.segment.specs.Refusals.{numbers}

abbrev section_of : ℕ → Section
section_of n =
    cond (eqb n 1) section.Header (
    cond (eqb n 2) section.TermDirectory (
    cond (eqb n 3) section.TermBytes (
    cond (eqb n 4) section.DocumentMetadata (
    cond (eqb n 5) section.Postings (
    section.TermPostings)))))

abbrev reason_of : ℕ → Reason
reason_of n =
    cond (eqb n 1) reason.TrailingBytes (
    cond (eqb n 2) reason.SectionRangeOverflow (
    cond (eqb n 3) reason.TrailingDocumentMetadata (
    cond (eqb n 4) reason.NonIncreasingDocumentId (
    cond (eqb n 5) reason.DirectoryLengthMismatch (
    cond (eqb n 6) reason.EmptyTerm (
    cond (eqb n 7) reason.NonIncreasingTerm (
    cond (eqb n 8) reason.EmptyTermPostingList (
    cond (eqb n 9) reason.NonIncreasingPostingId (
    cond (eqb n 10) reason.UnknownDocument (
    cond (eqb n 11) reason.EmptyPositionList (
    cond (eqb n 12) reason.NonIncreasingPosition (
    cond (eqb n 13) reason.PositionExceedsLength (
    cond (eqb n 14) reason.TrailingPostingBytes (
    cond (eqb n 15) reason.DocumentLengthsNotIncreasing (
    cond (eqb n 16) reason.TermsNotIncreasing (
    cond (eqb n 17) reason.PostingIdGapUnderflow (
    cond (eqb n 18) reason.PostingIdsNotIncreasing (
    cond (eqb n 19) reason.PositionGapUnderflow (
    cond (eqb n 20) reason.PositionsNotIncreasing (
    reason.WrittenPositionExceedsLength))))))))))))))))))))

abbrev said : (kind which index : ℕ) → Refusal
said k w i =
    cond (eqb k 1) (kind.Truncated (section_of w)) (
    cond (eqb k 2) kind.InvalidMagic (
    cond (eqb k 3) (kind.UnsupportedVersion i) (
    cond (eqb k 4) (kind.UnsupportedFlags i) (
    cond (eqb k 5) (kind.ChecksumMismatch (section_of w)) (
    cond (eqb k 6) (kind.InvalidLayout (reason_of w)) (
    cond (eqb k 7) (kind.InvalidVarint (section_of w) i) (
    cond (eqb k 8) (kind.DocIdOverflow i) (
    cond (eqb k 9) (kind.PositionOverflow i) (
    cond (eqb k 10) kind.InvalidUtf8 (
    cond (eqb k 11) kind.ListShape (
    cond (eqb k 12) kind.TooLarge (
    cond (eqb k 13) (kind.NoRoom w i) (
    cond (eqb k 14) (kind.MidiFile i) (
    cond (eqb k 15) kind.BarTooFar (
    cond (eqb k 16) kind.UnknownBar (
    cond (eqb k 17) kind.BarTooLong (
    cond (eqb k 18) kind.AlreadyHeld (
    cond (eqb k 19) kind.PadFull (
    cond (eqb k 20) kind.BrokenPad (
    cond (eqb k 21) (kind.IdsNotRising i) (
    kind.VelocityRange)))))))))))))))))))))

-- buffers are counted from 1
abbrev no_refusal : Refusal
no_refusal = kind.NoRoom 0 0

abbrev pub refusal_of : (kind which index : ℕ) → Refusal
refusal_of k w i =
    let x = said k w i in
    let n = numbers x in
    cond (eqb n.kind k) (cond (eqb n.which w) (cond (eqb n.index i) x no_refusal) no_refusal) no_refusal

abbrev pub refused : {A : Type 0} → (kind which index : ℕ) → Answer A
refused k w i = Err (refusal_of k w i)

-- every refusal is the one with its numbers
numbers_back : (x : Refusal) → let n = numbers x in said n.kind n.which n.index ≡ x
numbers_back (kind.Truncated section.Header) = refl
numbers_back (kind.Truncated section.TermDirectory) = refl
numbers_back (kind.Truncated section.TermBytes) = refl
numbers_back (kind.Truncated section.DocumentMetadata) = refl
numbers_back (kind.Truncated section.Postings) = refl
numbers_back (kind.Truncated section.TermPostings) = refl
numbers_back kind.InvalidMagic = refl
numbers_back (kind.UnsupportedVersion i) = refl
numbers_back (kind.UnsupportedFlags i) = refl
numbers_back (kind.ChecksumMismatch section.Header) = refl
numbers_back (kind.ChecksumMismatch section.TermDirectory) = refl
numbers_back (kind.ChecksumMismatch section.TermBytes) = refl
numbers_back (kind.ChecksumMismatch section.DocumentMetadata) = refl
numbers_back (kind.ChecksumMismatch section.Postings) = refl
numbers_back (kind.ChecksumMismatch section.TermPostings) = refl
numbers_back (kind.InvalidLayout reason.TrailingBytes) = refl
numbers_back (kind.InvalidLayout reason.SectionRangeOverflow) = refl
numbers_back (kind.InvalidLayout reason.TrailingDocumentMetadata) = refl
numbers_back (kind.InvalidLayout reason.NonIncreasingDocumentId) = refl
numbers_back (kind.InvalidLayout reason.DirectoryLengthMismatch) = refl
numbers_back (kind.InvalidLayout reason.EmptyTerm) = refl
numbers_back (kind.InvalidLayout reason.NonIncreasingTerm) = refl
numbers_back (kind.InvalidLayout reason.EmptyTermPostingList) = refl
numbers_back (kind.InvalidLayout reason.NonIncreasingPostingId) = refl
numbers_back (kind.InvalidLayout reason.UnknownDocument) = refl
numbers_back (kind.InvalidLayout reason.EmptyPositionList) = refl
numbers_back (kind.InvalidLayout reason.NonIncreasingPosition) = refl
numbers_back (kind.InvalidLayout reason.PositionExceedsLength) = refl
numbers_back (kind.InvalidLayout reason.TrailingPostingBytes) = refl
numbers_back (kind.InvalidLayout reason.DocumentLengthsNotIncreasing) = refl
numbers_back (kind.InvalidLayout reason.TermsNotIncreasing) = refl
numbers_back (kind.InvalidLayout reason.PostingIdGapUnderflow) = refl
numbers_back (kind.InvalidLayout reason.PostingIdsNotIncreasing) = refl
numbers_back (kind.InvalidLayout reason.PositionGapUnderflow) = refl
numbers_back (kind.InvalidLayout reason.PositionsNotIncreasing) = refl
numbers_back (kind.InvalidLayout reason.WrittenPositionExceedsLength) = refl
numbers_back (kind.InvalidVarint section.Header i) = refl
numbers_back (kind.InvalidVarint section.TermDirectory i) = refl
numbers_back (kind.InvalidVarint section.TermBytes i) = refl
numbers_back (kind.InvalidVarint section.DocumentMetadata i) = refl
numbers_back (kind.InvalidVarint section.Postings i) = refl
numbers_back (kind.InvalidVarint section.TermPostings i) = refl
numbers_back (kind.DocIdOverflow i) = refl
numbers_back (kind.PositionOverflow i) = refl
numbers_back kind.InvalidUtf8 = refl
numbers_back kind.ListShape = refl
numbers_back kind.TooLarge = refl
numbers_back (kind.NoRoom b n) = refl
numbers_back (kind.MidiFile i) = refl
numbers_back kind.BarTooFar = refl
numbers_back kind.UnknownBar = refl
numbers_back kind.BarTooLong = refl
numbers_back kind.AlreadyHeld = refl
numbers_back kind.PadFull = refl
numbers_back kind.BrokenPad = refl
numbers_back (kind.IdsNotRising i) = refl
numbers_back kind.VelocityRange = refl
