-- A name's column by characters, and a listing as a text in UTF-8.
-- Assumes nothing.
use Rattle.segment.specs.Refusals.{numbers}
use Rattle.std.specs.Prelude.{Err, Ok}
use mathlib.Core.Path.{◌≡◌, refl, ap, ◌∙◌}
use mathlib.Core.List.{List, [], ◌∷◌, ◌++◌, map}
use mathlib.Core.Bool.{Bool, true, false, cond, ◌||◌}
use mathlib.Core.Logic.{⊎_elim, inl}
use Prim.Native.Nat.{ℕ, zero, suc, ◌+◌, ◌-◌, ◌/◌, ◌%◌, ◌≤◌, ◌<◌}
use native.Mathlib.Omega.{arith}
use lib.Dec.{ltb, eqb}
use lib.ListN.{length, take, replicate, length-append, length-map, length-take, length-replicate}
use borrow.Author.Tests.{lt-ltb, le-ltb}
use Rattle.common.proofs.Loops.{lt_or_ge}
use Rattle.utf8.specs.Utf8.{Scalar, Scalars, octets, text, IsUtf8, decoded}
use Rattle.utf8.proofs.Decoded.{decodes, decodes_front, text_append, scalars_append, scalars_take, is_utf8_append, is_utf8_cons}
use Rattle.segment.specs.Results.{Answer}
use Rattle.segment.specs.Records.{Document, Entry, Segment}
use Rattle.calls.specs.Listing.{digits, column, shown, fitted, name_column, count_line, document_line, entry_line, document_lines}
use Rattle.calls.specs.Listing.{entry_lines, refusal_line, text_of, listable, listing}
use Rattle.calls.specs.Claims as claims

-- ---- a name's column

pub fitted_length : (width : ℕ) (vs : List ℕ) → length (fitted width vs) ≡ width
fitted_length width vs = simp (length-append, length-map, length-take, length-replicate) (omega arith)

shown_scalar : (c : ℕ) → Scalar c → Scalar (shown c)
shown_scalar c s = pick (ltb c 32 || eqb c 127)
  where
    pick : (t : Bool) → Scalar (cond t 63 c)
    pick true = inl (omega arith)
    pick false = s

scalars_shown : (vs : List ℕ) → Scalars vs → Scalars (map shown vs)
scalars_shown [] ss = tt
scalars_shown (v ∷ vs) (s, ss) = (shown_scalar v s, scalars_shown vs ss)

scalars_spaces : (n : ℕ) → Scalars (replicate n 32)
scalars_spaces zero = tt
scalars_spaces (suc n) = (inl (omega arith), scalars_spaces n)

fitted_scalars : (width : ℕ) (vs : List ℕ) → Scalars vs → Scalars (fitted width vs)
fitted_scalars width vs ss =
    scalars_append (map shown (take width vs)) (replicate (width - length vs) 32)
    (scalars_shown (take width vs) (scalars_take width vs ss))
    (scalars_spaces (width - length vs))

pub text_spaces : (n : ℕ) → text (replicate n 32) ≡ replicate n 32
unfolding octets
text_spaces zero = refl
text_spaces (suc n) = ap (λ l. 32 ∷ l) (text_spaces n)

pub name_by_characters : claims.NameByCharacters
unfolding name_column
name_by_characters width values ss =
    ap (λ vs. text (fitted width vs)) (decodes values ss)
    ∙ text_append (map shown (take width values)) (replicate (width - length values) 32)
    ∙ ap (λ l. text (map shown (take width values)) ++ l) (text_spaces (width - length values))

module _ (width : ℕ) (name : List ℕ) where
  pub column_scalars : Scalars (fitted width (decoded name))
  column_scalars = fitted_scalars width (decoded name) (decodes_front name).0

  pub column_utf8 : IsUtf8 (name_column width name)
  unfolding name_column
  column_utf8 = record { values = fitted width (decoded name); scalars = column_scalars; encoded = refl }

  pub column_characters : length (decoded (name_column width name)) ≡ width
  unfolding name_column
  column_characters = ap length (decodes (fitted width (decoded name)) column_scalars) ∙ fitted_length width (decoded name)

pub column_whole : claims.ColumnWhole
column_whole width name = (column_utf8 width name, column_characters width name)

-- ---- the listing

nothing : IsUtf8 []
nothing = record { values = []; scalars = tt; encoded = refl }

digits_utf8 : (most n : ℕ) (rest : List ℕ) → IsUtf8 rest → IsUtf8 (digits most n rest)
unfolding digits
digits_utf8 zero n rest u = u
digits_utf8 (suc m) n rest u = ⊎_elim
    (λ (h : n < 10). rw (lt-ltb n 10 h) (is_utf8_cons (48 + n) rest (omega arith) u))
    (λ (h : 10 ≤ n). rw (le-ltb n 10 h) (digits_utf8 m (n / 10) ((48 + n % 10) ∷ rest) (is_utf8_cons (48 + n % 10) rest (omega arith) u)))
    (lt_or_ge n 10)

spaces_utf8 : (n : ℕ) → IsUtf8 (replicate n 32)
spaces_utf8 n = record { values = replicate n 32; scalars = scalars_spaces n; encoded = rw (text_spaces n) }

number_utf8 : (n : ℕ) → IsUtf8 (column n)
unfolding column
number_utf8 n = is_utf8_append _ _ (spaces_utf8 (10 - length (digits 20 n []))) (digits_utf8 20 n [] nothing)

line_utf8 : (l : List ℕ) → IsUtf8 l → IsUtf8 (l ++ 10 ∷ [])
line_utf8 l u = is_utf8_append l (10 ∷ []) u (is_utf8_cons 10 [] (omega arith) nothing)

pair_utf8 : (a b : ℕ) → IsUtf8 (column a ++ column b ++ 10 ∷ [])
pair_utf8 a b = line_utf8 _ (is_utf8_append _ _ (number_utf8 a) (number_utf8 b))

documents_utf8 : (ds : List Document) → IsUtf8 (document_lines ds)
unfolding document_lines document_line
documents_utf8 [] = nothing
documents_utf8 (d ∷ ds) = is_utf8_append _ _ (pair_utf8 d.id d.len) (documents_utf8 ds)

entries_utf8 : (es : List Entry) → IsUtf8 (entry_lines es)
unfolding entry_lines entry_line
entries_utf8 [] = nothing
entries_utf8 (e ∷ es) =
    is_utf8_append _ _ (line_utf8 _ (is_utf8_append _ _ (column_utf8 16 e.name) (number_utf8 e.df))) (entries_utf8 es)

text_utf8 : (r : Answer Segment) → IsUtf8 (text_of r)
unfolding count_line refusal_line
text_utf8 (Ok s) =
    is_utf8_append _ _
    (is_utf8_append _ _ (pair_utf8 (length s.documents) (length s.entries)) (documents_utf8 s.documents))
    (entries_utf8 s.entries)
text_utf8 (Err x) =
    line_utf8 _ (is_utf8_append _ _ (is_utf8_append _ _ (number_utf8 (numbers x).kind) (number_utf8 (numbers x).which)) (number_utf8 (numbers x).index))

pub listing_utf8 : claims.ListingUtf8
unfolding listing
listing_utf8 bytes = text_utf8 (listable bytes)
