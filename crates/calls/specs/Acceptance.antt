-- When document 01 names no refusal for what is handed to the writer, in words.
use Rattle.std.specs.Prelude.{ℕ, ◌≤◌, ◌<◌, ◌≡◌, List, [], ◌∷◌, map, length}
use Rattle.utf8.specs.Utf8.{IsUtf8}
use Rattle.segment.specs.Records.{Document, Posting, Term}
use Rattle.segment.specs.Names.{Before}
use Rattle.segment.specs.Texts.{TextShape}
use Rattle.common.specs.Elements.{◌∈◌, Rising}
use Rattle.calls.specs.Given.{Lists, given}
use Rattle.common.specs.Lists.{total}
use Rattle.segment.specs.Written.{segment_bytes}

-- each next name comes after the one before it in byte order
abbrev pub NamesRising : List (List ℕ) → Type 0
NamesRising [] = Unit {0}
NamesRising (x ∷ []) = Unit {0}
NamesRising (x ∷ (y ∷ zs)) = Before x y × NamesRising (y ∷ zs)

-- a posting's document is known, it has positions, and they rise below the document's length
pub record PostingFine (documents : List Document) (p : Posting) : Type 0 where
  pub of : Document
  pub known : of ∈ documents
  pub same : of.id ≡ p.doc
  pub has_positions : 0 < length p.positions
  pub rising : Rising p.positions
  pub inside : (x : ℕ) → x ∈ p.positions → x < of.len

pub record TermFine (documents : List Document) (t : Term) : Type 0 where
  pub text : IsUtf8 t.name
  pub not_empty : 0 < length t.name
  pub has_postings : 0 < length t.postings
  pub rising : Rising (map (λ p. p.doc) t.postings)
  pub each : (p : Posting) → p ∈ t.postings → PostingFine documents p

-- no list has over 16,777,216 elements
pub record Small (l : Lists) : Type 0 where
  pub ids : length l.ids ≤ 16777216
  pub lengths : length l.lengths ≤ 16777216
  pub text : length l.text ≤ 16777216
  pub ends : length l.ends ≤ 16777216
  pub posting_counts : length l.posting_counts ≤ 16777216
  pub posting_ids : length l.posting_ids ≤ 16777216
  pub position_counts : length l.position_counts ≤ 16777216
  pub positions : length l.positions ≤ 16777216

-- the lists fit together
pub record Shape (l : Lists) : Type 0 where
  pub documents : length l.ids ≡ length l.lengths
  pub text : TextShape l.text l.ends
  pub terms : length l.posting_counts ≡ length l.ends
  pub postings : total l.posting_counts ≡ length l.posting_ids
  pub counts : length l.position_counts ≡ length l.posting_ids
  pub positions : total l.position_counts ≡ length l.positions

-- document 01 names no refusal for the lists, whatever the room
pub record ListsFine (l : Lists) : Type 0 where
  pub small : Small l
  pub shape : Shape l
  pub documents_rise : Rising (map (λ d. d.id) (given l).documents)
  pub names_rise : NamesRising (map (λ t. t.name) (given l).terms)
  pub each : (t : Term) → t ∈ (given l).terms → TermFine (given l).documents t

-- document 01 names no refusal: for the lists, or for the room that their bytes take
pub record Writable (l : Lists) (room : ℕ) : Type 0 where
  pub lists : ListsFine l
  pub room_enough : length (segment_bytes (given l)) ≤ room
