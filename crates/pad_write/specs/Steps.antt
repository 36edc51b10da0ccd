-- What the passes over the sounds measure and store, one sound at a time.
use Rattle.std.specs.Prelude.{Err, IfSome, None, Ok, Option, Some, option_map}
use Rattle.std.specs.Prelude.{ℕ, ◌+◌, ◌-◌, ◌*◌, ◌^◌, ◌≤◌, ◌<◌, ◌≡◌, true, cond, ◌&&◌, List, ◌++◌, map, ltb, leb, eqb, length, take, drop}
use Rattle.std.proofs.lemmas.List.Edits.{sets}
use Rattle.common.specs.Lists.{total}
use Rattle.crc32.specs.Crc32.{crc32_of}
use Rattle.crc32.specs.Parts.{all_taken_in}
use Rattle.segment.specs.Records.{Document, Posting, Term, Given, between, header_size, entry_size}
use Rattle.segment.specs.Refusals.{too_large, list_shape}
use Rattle.segment.specs.Results.{Answer, ◌>>=◌, check}
use Rattle.segment.specs.Texts.{ends_fit, names}
use Rattle.segment.specs.Written.{entry_bytes, list_bytes, postings_bytes, directory_bytes, name_bytes, metadata_bytes, lists_bytes}
use Rattle.segment.specs.Written.{segment_bytes}
use Rattle.calls.specs.Checks.{check_name, check_postings, check_terms}
use Rattle.write_lookup.specs.Steps.{RisingByIndex}
use Rattle.write_frame.specs.declared.frame.Offsets.{Offsets}
use Rattle.calls.specs.Given.{term, postings_in}
use Rattle.pad_map.specs.Bars.{Bar}
use Rattle.pad_map.specs.Acts.{terms_of}
use Rattle.pad_words.specs.Whole.{whole}
use Rattle.pad_words.specs.Words.{held}
use Rattle.pad_lists.specs.declared.sound.Gathered.{Gathered}
use Rattle.pad_write.specs.declared.measure.Tally.{Tally}
use Rattle.pad_write.specs.declared.store.Progress.{Progress}

-- the terms of the sounds from one on; the next sound's name starts at `from` of the text
unfoldable pub terms_from : (bars : List Bar) (text ends : List ℕ) (sound from : ℕ) → List Term
terms_from bars text ends s from = terms_of s (names from (drop s ends) (drop from text)) bars

-- ---- a sound's postings in lists

-- what is gathered lies in the lists, and is no more than a pad holds
pub record InLists (posting_ids counts positions : List ℕ) (got : Gathered) : Type 0 where
  pub ids_there : got.postings ≤ length posting_ids
  pub counts_there : got.postings ≤ length counts
  pub positions_there : got.positions ≤ length positions
  pub enough : total (take got.postings counts) ≡ got.positions
  pub few_postings : got.postings ≤ 256
  pub few_positions : got.positions ≤ 8192

abbrev pub gathered : (posting_ids counts positions : List ℕ) → Gathered → List Posting
gathered posting_ids counts positions got =
    postings_in (take got.postings posting_ids) (take got.postings counts) (take got.positions positions)

-- ---- measured

-- the name of the last sound with hits
abbrev pub last_name : (text : List ℕ) → Tally → Option (List ℕ)
last_name text t = option_map (λ n. between n.from n.to text) t.last

-- past a sound without hits, whose name ends here
abbrev pub past_sound : Tally → (end : ℕ) → Tally
past_sound t end =
    record { terms = t.terms; names = t.names; lists = t.lists; last = t.last; from = end }

-- past a sound with hits, whose list has this size
abbrev pub past_term : Tally → (end size : ℕ) → Tally
past_term t end size = record {
  terms = t.terms + 1;
  names = t.names + (end - t.from);
  lists = t.lists + size;
  last = Some (record { from = t.from; to = end });
  from = end;
}

-- on where a check passed
abbrev pub going_on : Answer (Unit {0}) → Tally → Answer Tally
going_on (Ok u) t = Ok t
going_on (Err x) t = Err x

-- a sound with hits: its name, then its postings
abbrev pub check_sound : (documents : List Document) (text : List ℕ) (postings : List Posting) (end : ℕ) → Tally → Answer (Unit {0})
check_sound documents text ps end t = do
  _ ← check_name (last_name text t) (between t.from end text)
  check_postings documents None ps

-- one sound with this number of postings
unfoldable pub tallied : (documents : List Document) (text : List ℕ) (count : ℕ) (postings : List Posting) (end : ℕ) → Tally → Answer Tally
tallied documents text n ps end t =
    let used = going_on (check_sound documents text ps end t) (past_term t end (length (postings_bytes None ps))) in
    cond (ltb 0 n) used (Ok (past_sound t end))

-- what the check of a sound rests on: its postings, its name, the last name, and sums that do not wrap
pub record SoundMeasurable (ids lengths text posting_ids counts positions : List ℕ) (got : Gathered) (end : ℕ) (t : Tally) : Type 0 where
  pub rises : RisingByIndex ids
  pub documents : length ids ≡ length lengths
  pub lists : InLists posting_ids counts positions got
  pub name_order : t.from ≤ end
  pub name_inside : end ≤ length text
  pub last_inside : IfSome t.last (λ n. (n.from ≤ n.to) × (n.to ≤ length text))
  pub names_low : t.names ≤ t.from
  pub terms_low : t.terms ≤ 128
  pub lists_low : t.lists ≤ 251658240

-- all sounds: every check passed, and the sizes
pub record TalliedAll (documents : List Document) (terms : List Term) (t : Tally) : Type 0 where
  pub passed : check_terms documents None terms ≡ Ok tt
  pub count : t.terms ≡ length terms
  pub name_size : t.names ≡ length (name_bytes terms)
  pub list_size : t.lists ≡ length (lists_bytes terms)

abbrev pub TermsMeasured : (documents : List Document) (terms : List Term) → Answer Tally → Type 0
TermsMeasured documents terms (Ok t) = TalliedAll documents terms t
TermsMeasured documents terms (Err x) = check_terms documents None terms ≡ Err x

-- ---- stored

-- the sections of some terms, from where the next list, entry and name go
abbrev pub stored_terms : (names_at lists_at : ℕ) → List Term → (out : List ℕ) → Progress → List ℕ
stored_terms names_at lists_at ts out p =
    sets
    (sets (sets out p.list (lists_bytes ts)) p.entry (directory_bytes p.name (p.list - lists_at) ts))
    (names_at + p.name)
    (name_bytes ts)

-- one term's list, entry and name
pub record TermStored (names_at lists_at : ℕ) (t : Term) (out : List ℕ) (p r : Progress) (out' : List ℕ) : Type 0 where
  pub left : out' ≡ sets
      (sets (sets out p.list (list_bytes t)) p.entry
      (entry_bytes p.name (length t.name) (p.list - lists_at) (list_bytes t) (length t.postings)))
      (names_at + p.name)
      t.name
  pub list : r.list ≡ p.list + length (list_bytes t)
  pub entry : r.entry ≡ p.entry + entry_size
  pub name : r.name ≡ p.name + length t.name
  pub run : r.run ≡ all_taken_in p.run (list_bytes t)

-- nothing of a sound without hits
pub record NothingStored (out : List ℕ) (p r : Progress) (out' : List ℕ) : Type 0 where
  pub left : out' ≡ out
  pub list : r.list ≡ p.list
  pub entry : r.entry ≡ p.entry
  pub name : r.name ≡ p.name
  pub run : r.run ≡ p.run

-- a sound, whose name ends here
pub record SoundStored (names_at lists_at : ℕ) (name : List ℕ) (postings : List Posting) (count end : ℕ) (out : List ℕ) (p r : Progress)
    (out' : List ℕ) : Type 0 where
  pub from : r.from ≡ end
  pub used : 0 < count → TermStored names_at lists_at (term name postings) out p r out'
  pub unused : count ≡ 0 → NothingStored out p r out'

-- the slice has room for one more term
pub record TermRoom (names_at lists_at : ℕ) (list : List ℕ) (name_length : ℕ) (out : List ℕ) (p : Progress) : Type 0 where
  pub entry : p.entry + entry_size ≤ names_at
  pub name : names_at + p.name + name_length ≤ lists_at
  pub begun : lists_at ≤ p.list
  pub room : p.list + length list ≤ length out
  pub small_name : p.name + name_length < 2 ^ 32

pub record SoundRoom (text posting_ids counts positions : List ℕ) (got : Gathered) (end : ℕ) (out : List ℕ) (names_at lists_at : ℕ)
    (p : Progress) : Type 0 where
  pub lists : InLists posting_ids counts positions got
  pub name_order : p.from ≤ end
  pub name_inside : end ≤ length text
  pub used : 0 < got.postings
      → TermRoom names_at lists_at (postings_bytes None (gathered posting_ids counts positions got)) (end - p.from) out p

-- all terms; answered is the lists' checksum
pub record TermsStored (names_at lists_at : ℕ) (terms : List Term) (out : List ℕ) (r : ℕ) (out' : List ℕ) : Type 0 where
  pub checksum : r ≡ crc32_of (lists_bytes terms)
  pub left : out' ≡ sets (sets (sets out lists_at (lists_bytes terms)) header_size (directory_bytes 0 0 terms)) names_at (name_bytes terms)

-- the sections lie one behind the other in the slice
pub record TermsRoom (names_at lists_at : ℕ) (terms : List Term) (out : List ℕ) : Type 0 where
  pub directory : header_size + entry_size * length terms ≤ names_at
  pub names : names_at + length (name_bytes terms) ≤ lists_at
  pub lists : lists_at + length (lists_bytes terms) ≤ length out
  pub small_names : length (name_bytes terms) < 2 ^ 32

-- ---- the passes

-- a place for each posting and each hit that a sound can have
pub record ListsLong (posting_ids counts positions : List ℕ) : Type 0 where
  pub ids_long : length posting_ids ≡ 256
  pub counts_long : length counts ≡ 256
  pub positions_long : length positions ≡ 8192

-- what both passes rest on: a pad that is whole, a name for each sound, and lists to hold one sound
pub record PadAndNames (pad text ends posting_ids counts positions : List ℕ) : Type 0 where
  pub whole_pad : whole pad ≡ true
  pub short : length text ≤ 16777216
  pub sounds : length ends ≡ 128
  pub fit : ends_fit 0 ends (length text) ≡ true
  pub long : ListsLong posting_ids counts positions

-- the bars as documents
pub record DocumentsGiven (pad ids lengths : List ℕ) : Type 0 where
  pub ids_are : ids ≡ map (λ b. b.id) (held pad)
  pub lengths_are : lengths ≡ map (λ b. b.len) (held pad)

-- all sounds measured; the lists are as long as before
pub record SoundsMeasured (documents : List Document) (terms : List Term) (r : Answer Tally) (posting_ids' counts' positions' : List ℕ)
    : Type 0 where
  pub answer : TermsMeasured documents terms r
  pub long : ListsLong posting_ids' counts' positions'

-- ---- the call

-- kinds 12 and 11: the length of text and ends, then as many ends as sounds, and the text's shape
unfoldable pub check_text : (text ends : List ℕ) → Answer (Unit {0})
check_text text ends = do
  _ ← check (leb (length text) 16777216 && leb (length ends) 16777216) too_large
  check (eqb (length ends) 128 && ends_fit 0 ends (length text)) list_shape

-- the offsets are the sections', and the slice has room for them
pub record SegmentRoom (g : Given) (out : List ℕ) (terms : ℕ) (at : Offsets) : Type 0 where
  pub count : terms ≡ length g.terms
  pub names : at.names ≡ header_size + entry_size * length g.terms
  pub metadata : at.metadata ≡ at.names + length (name_bytes g.terms)
  pub lists : at.lists ≡ at.metadata + length (metadata_bytes None g.documents)
  pub end : at.end ≡ at.lists + length (lists_bytes g.terms)
  pub room : at.end ≤ length out

pub record SegmentStored (g : Given) (out out' : List ℕ) : Type 0 where
  pub left : out' ≡ segment_bytes g ++ drop (length (segment_bytes g)) out
