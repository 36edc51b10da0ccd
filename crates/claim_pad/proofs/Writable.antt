-- A pad is written exactly where no refusal is named: for its words, for the names, for the room.
-- Assumes nothing.
use Rattle.std.specs.Prelude.{None, Ok}
use mathlib.Core.Path.{◌≡◌, sym, ◌∙◌, subst}
use mathlib.Core.Bool.{◌&&◌}
use mathlib.Core.List.{List, [], map}
use Prim.Native.Nat.{ℕ, ◌+◌, ◌<◌}
use native.Mathlib.Nat.{zero-add}
use native.Mathlib.Omega.{arith}
use lib.Dec.{leb, eqb}
use lib.ListN.{length, get_or}
use borrow.Author.Tests.{leb-true, le-leb, eqb-true, eq-eqb}
use Rattle.common.specs.Elements.{◌∈◌, Rising}
use Rattle.common.proofs.Loops.{and_left, and_right}
use Rattle.segment.specs.Refusals.{too_large, list_shape}
use Rattle.segment.specs.Records.{Term}
use Rattle.segment.specs.Texts.{ends_fit, names}
use Rattle.segment.proofs.Accepted.{check_gives}
use Rattle.segment.proofs.Binds.{bind_gives}
use Rattle.segment.proofs.Shapes.{names_count, shape_is}
use Rattle.calls.specs.Given.{given, term, laid_flat}
use Rattle.calls.specs.Acceptance.{ListsFine, TermFine}
use Rattle.calls.specs.Checks.{check_postings, check_terms, check_lists}
use Rattle.calls.specs.Writing.{write}
use Rattle.calls.proofs.Accepted.{terms_from, postings_from}
use Rattle.calls.proofs.Passing.{checks_exactly}
use Rattle.claim_joint.proofs.Accepting.{accepts}
use Rattle.pad_map.specs.Bars.{Bar}
use Rattle.pad_map.specs.Rules.{HitsFine}
use Rattle.pad_map.specs.Acts.{postings_of, terms_of, given_of, write_out}
use Rattle.pad_words.specs.Words.{held}
use Rattle.pad_words.specs.Whole.{Whole}
use Rattle.pad_words.specs.Calls.{held_bars, pad_write}
use Rattle.pad_words.proofs.Exactly.{whole_exactly}
use Rattle.pad_write.proofs.Bounds.{documents_of, ids_are, checks_are}
use Rattle.claim_pad.specs.Written.{Used, NamesFine, NamesShaped, map_lists}
use Rattle.claim_pad.specs.Claims.{AsTheWriter, NamesDecide, OnlyNames, WrittenExactly}
use Rattle.claim_pad.proofs.Acting.{holds_these, holds_own, write_by_map}
use Rattle.claim_pad.proofs.Listed.{terms_gives}
use Rattle.claim_pad.proofs.Listed as listed
use Rattle.claim_pad.proofs.Hits.{terms_are}
use Rattle.claim_pad.proofs.Fine.{docs_rise, posting_fine}
use Rattle.claim_pad.proofs.Named.{used_some, some_used, names_from, names_give, names_decide_terms}

-- ---- 20, 12 and 11, then the writer

pub record WrittenSo (pad text ends : List ℕ) (room : ℕ) (bytes : List ℕ) : Type 0 where
  pub whole : Whole pad
  pub shaped : NamesShaped text ends
  pub written : write (map_lists pad text ends) room ≡ Ok bytes

pub written_gives : (pad text ends : List ℕ) (room : ℕ) {bytes : List ℕ} → pad_write pad text ends room ≡ Ok bytes
    → WrittenSo pad text ends room bytes
unfolding pad_write write_out
written_gives pad text ends room e =
    let (bars, h, e₁) = bind_gives (held_bars pad) _ e in
    let (is_whole, holds) = holds_these pad bars h in
    let (sizes, e₂) = check_gives (leb (length text) 16777216 && leb (length ends) 16777216) too_large _ e₁ in
    let (shape, e₃) = check_gives (eqb (length ends) 128 && ends_fit 0 ends (length text)) list_shape _ e₂ in
    record {
      whole = (whole_exactly pad).0 is_whole;
      shaped = record {
        small = leb-true (length text) 16777216 (and_left _ _ sizes);
        number = eqb-true (length ends) 128 (and_left _ _ shape);
        shape = (shape_is text ends).0 (and_right (eqb (length ends) 128) (ends_fit 0 ends (length text)) shape);
      };
      written = rw holds e₃;
    }

pub write_is : (pad text ends : List ℕ) (room : ℕ) → Whole pad → NamesShaped text ends
    → pad_write pad text ends room ≡ write (map_lists pad text ends) room
unfolding write_out
write_is pad text ends room w n =
    write_by_map pad (held pad) (holds_own pad ((whole_exactly pad).1 w)) text ends room
    ∙ rw (
      le-leb (length text) 16777216 n.small,
      le-leb (length ends) 16777216 (omega (arith, n.number)),
      eq-eqb (length ends) 128 n.number,
      (shape_is text ends).1 n.shape,
    )

pub as_the_writer : AsTheWriter
as_the_writer pad text ends w n out r out' =
    let is = write_is pad text ends (length out) w n in (
      λ p. record { reply = rw is at p.reply; left = rw is at p.left },
      λ p. record { reply = rw is p.reply; left = rw is p.left },
    )

-- ---- terms of fine bars

module _ (ns : List (List ℕ)) (bars : List Bar) (rise : Rising (map (λ b. b.id) bars))
    (fine : (b : Bar) → b ∈ bars → HitsFine b.len b.hits) where
  documents_rise : Rising (map (λ d. d.id) (documents_of bars))
  documents_rise = rw (ids_are bars) rise

  postings_pass : (t : Term) → t ∈ terms_of 0 ns bars
      → (0 < length t.postings) × (check_postings (documents_of bars) None t.postings ≡ Ok tt)
  postings_pass t m =
      let o = terms_gives 0 ns bars t m in
      let s = 0 + o.place in (
        o.some,
        rw o.postings_are
            (postings_from (documents_of bars) documents_rise None (postings_of s bars) (docs_rise s bars rise) (posting_fine s bars fine)),
      )

  term_fine : NamesFine ns bars → (t : Term) → t ∈ terms_of 0 ns bars → TermFine (documents_of bars) t
  term_fine good t m =
      let o = terms_gives 0 ns bars t m in
      let s = 0 + o.place in
      let used = subst (Used bars) (zero-add o.place) (some_used bars s (rw o.postings_are at o.some)) in
      record {
        text = rw o.name_is (good.text o.place used);
        not_empty = rw o.name_is (good.not_empty o.place used);
        has_postings = o.some;
        rising = rw o.postings_are (docs_rise s bars rise);
        each = λ p k. posting_fine s bars fine p (subst (λ ps. p ∈ ps) o.postings_are k);
      }

  -- the terms pass where the names are fine
  pub terms_pass : NamesFine ns bars → check_terms (documents_of bars) None (terms_of 0 ns bars) ≡ Ok tt
  terms_pass good =
      terms_from (documents_of bars) documents_rise None (terms_of 0 ns bars)
      (names_from bars 0 ns (λ i j up inside u v.
      good.rising i j (subst (Used bars) (zero-add i) u) (subst (Used bars) (zero-add j) v) up)) (term_fine good)

  -- what the writer asks of the lists, it asks of the names
  module _ (many : length ns ≡ 128) where
    inside : (s : ℕ) → Used bars s → s < length ns
    inside s u = omega (arith, many, (fine u.bar u.held).sounds u.hit u.own, u.of)

    term_there : (s : ℕ) → Used bars s → term (get_or ns s []) (postings_of s bars) ∈ terms_of 0 ns bars
    term_there s u =
        subst (λ k. term (get_or ns s []) (postings_of k bars) ∈ terms_of 0 ns bars) (zero-add s)
        (listed.terms_from 0 ns bars s (inside s u) (used_some bars (0 + s) (subst (Used bars) (sym (zero-add s)) u)))

    pub names_asked : ListsFine (laid_flat (given_of ns bars)) → NamesFine ns bars
    names_asked f =
        let each : (s : ℕ) → Used bars s
        → TermFine (given (laid_flat (given_of ns bars))).documents (term (get_or ns s []) (postings_of s bars)) =
        λ s u. f.each _ (rw (terms_are ns bars) (term_there s u)) in
        record {
          text = λ s u. (each s u).text;
          not_empty = λ s u. (each s u).not_empty;
          rising = λ s t u v up.
              names_give bars 0 ns (rw (terms_are ns bars) at f.names_rise) s t up (inside t v)
              (subst (Used bars) (sym (zero-add s)) u) (subst (Used bars) (sym (zero-add t)) v);
        }

-- ---- of a whole pad and names that pass 12 and 11

checked : (pad text ends : List ℕ) → Whole pad → NamesShaped text ends
    → check_lists (map_lists pad text ends) ≡ check_terms (documents_of (held pad)) None (terms_of 0 (names 0 ends text) (held pad))
checked pad text ends w n =
    checks_are pad ((whole_exactly pad).1 w) text ends n.small n.number ((shape_is text ends).1 n.shape)

pub names_decide : NamesDecide
names_decide pad text ends w n =
    checked pad text ends w n
    ∙ names_decide_terms (documents_of (held pad)) None (terms_of 0 (names 0 ends text) (held pad))
    (postings_pass (names 0 ends text) (held pad) w.ids_rise w.each)

pub only_names : OnlyNames
only_names pad text ends w n =
    let ns = names 0 ends text in (
      names_asked ns (held pad) w.ids_rise w.each (names_count 0 ends text ∙ n.number),
      λ good. (checks_exactly (map_lists pad text ends)).0
          (checked pad text ends w n ∙ terms_pass ns (held pad) w.ids_rise w.each good),
    )

pub written_exactly : WrittenExactly
written_exactly pad text ends room = (
  λ (bytes, e).
      let g = written_gives pad text ends room e in
      let fine = (accepts (map_lists pad text ends) room).0 (bytes, g.written) in
      record {
        whole = g.whole;
        shaped = g.shaped;
        fine = (only_names pad text ends g.whole g.shaped).0 fine.lists;
        room_enough = fine.room_enough;
      },
  λ p.
      let fine = (only_names pad text ends p.whole p.shaped).1 p.fine in
      let (bytes, e) = (accepts (map_lists pad text ends) room).1 (record { lists = fine; room_enough = p.room_enough }) in
      (bytes, write_is pad text ends room p.whole p.shaped ∙ e),
)
