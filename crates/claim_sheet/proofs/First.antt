-- The first line in words: id and length in 10 columns each, then blanks.
-- Assumes nothing.
use mathlib.Core.Path.{◌≡◌, sym, ap, ◌∙◌, subst}
use mathlib.Core.List.{List, [], ◌∷◌, ◌++◌, append_assoc}
use Prim.Native.Nat.{ℕ, ◌<◌}
use native.Mathlib.Omega.{arith}
use lib.ListN.{length, take, drop, replicate, length-append, length-replicate}
use lib.Seq.{take_at, drop_at}
use Rattle.utf8.specs.Utf8.{text}
use Rattle.calls.specs.Listing.{column}
use Rattle.calls.specs.Sheet.{heading}
use Rattle.show_columns.proofs.Columns.{column_length}
use Rattle.claim_sheet.specs.Words.{InColumns, FirstLine}
use Rattle.claim_sheet.proofs.Decimals.{in_ten}
use Rattle.claim_sheet.proofs.Printing.{Plain, plain_append, plain_blanks, plain_column, plain_scalars, plain_text, unbroken_plain}

abbrev pub first_characters : (id len : ℕ) → List ℕ
first_characters id len = column id ++ column len ++ replicate 60 32

module _ (id len : ℕ) where
  plain_first : Plain (first_characters id len)
  plain_first =
      plain_append (column id ++ column len) (replicate 60 32)
      (plain_append (column id) (column len) (plain_column id) (plain_column len))
      (plain_blanks 60)

  pub heading_is : heading id len ≡ text (first_characters id len) ++ 10 ∷ []
  unfolding heading
  heading_is = ap (λ (l : List ℕ). l ++ 10 ∷ []) (sym (plain_text (first_characters id len) plain_first))

  module _ (small : id < 10000000000) (short : len < 10000000000) where
    ten : length (column id) ≡ 10
    ten = column_length id small

    again : length (column len) ≡ 10
    again = column_length len short

    both : length (column id ++ column len) ≡ 20
    both = omega (arith, length-append (column id) (column len), ten, again)

    pub first_line : FirstLine id len (first_characters id len)
    first_line =
        let blanks : List ℕ = replicate 60 32 in
        let parts = append_assoc (column id) (column len) blanks in
        record {
          is_line = record {
            characters = plain_scalars (first_characters id len) plain_first;
            wide = omega (arith, length-append (column id ++ column len) blanks, both, length-replicate {0} {A = ℕ} 60 32);
            one_line = unbroken_plain (first_characters id len) plain_first;
          };
          has_id =
              subst (InColumns 10 id) (sym (ap (take 10) parts ∙ take_at (column id) (column len ++ blanks) 10 ten)) (in_ten id small);
          has_length =
              subst (InColumns 10 len)
              (sym (ap (λ (l : List ℕ). take 10 (drop 10 l)) parts ∙ ap (take 10) (drop_at (column id) (column len ++ blanks) 10 ten)
              ∙ take_at (column len) blanks 10 again))
              (in_ten len short);
          blanks = drop_at (column id ++ column len) blanks 20 both;
        }
