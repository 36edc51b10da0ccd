-- A document's own positions in the lists of a map are the steps of its bar's own hits, and so phrases are met alike.
-- Assumes nothing.
use mathlib.Core.Path.{◌≡◌, refl, sym, ap, ◌∙◌, subst}
use mathlib.Core.List.{List, [], ◌∷◌, map}
use mathlib.Core.Logic.{◌↔◌, inl, inr}
use Prim.Native.Nat.{ℕ, ◌+◌, ◌≤◌, ◌<◌}
use native.Mathlib.Nat.{zero-add}
use native.Mathlib.Omega.{arith}
use lib.ListN.{length, get_or}
use Rattle.common.specs.Elements.{◌∈◌, Rising}
use Rattle.common.proofs.Elements.{rising_tail, rising_above, map_from}
use Rattle.common.proofs.Membership.{in_some}
use Rattle.segment.specs.Records.{Posting, Given}
use Rattle.segment.specs.Texts.{names}
use Rattle.segment.proofs.Shapes.{names_count}
use Rattle.rules.specs.declared.rule.Rule.TheVariants.{Phrase}
use Rattle.rules.specs.Words.{HasPhrase}
use Rattle.calls.specs.Given.{Lists, given, posting, term, laid_flat}
use Rattle.calls.proofs.Unflat.{given_back}
use Rattle.claim_joint.specs.Own.{own}
use Rattle.claim_joint.specs.Demand.{ThoseThatMeet}
use Rattle.claim_joint.proofs.Owned.{own_stands}
use Rattle.pad_map.specs.Bars.{Bar}
use Rattle.pad_map.specs.Rules.{HitsFine}
use Rattle.pad_map.specs.Acts.{steps_of, postings_of, terms_of, given_of}
use Rattle.pad_words.specs.Words.{held}
use Rattle.pad_write.proofs.Bounds.{ids_are}
use Rattle.claim_pad.specs.Phrases.{HasHit, HitsMeet, BarsThatMeet}
use Rattle.claim_pad.specs.Claims.{OwnHits, BarsAgree}
use Rattle.claim_pad.proofs.Listed.{bar_posting, steps_gives, steps_from, postings_gives, postings_from, terms_gives, terms_from}

of_posting : (p q : Posting) {d : ℕ} → p ≡ q → p.doc ≡ d → q.doc ≡ d
of_posting p q e is = sym (ap (λ (x : Posting). x.doc) e) ∙ is

-- an id is one bar's
one_bar : (bars : List Bar) → Rising (map (λ b. b.id) bars) → (b c : Bar) → b ∈ bars → c ∈ bars → b.id ≡ c.id → b ≡ c
one_bar [] r b c m k e = absurd m
one_bar (a ∷ bars) r b c (inl m) (inl k) e = m ∙ sym k
one_bar (a ∷ bars) r b c (inl m) (inr k) e =
    let up = rising_above a.id (map (λ b. b.id) bars) r c.id (map_from (λ b. b.id) bars c k) in
    let is : a.id ≡ b.id = ap (λ (x : Bar). x.id) (sym m) in
    absurd (omega arith)
one_bar (a ∷ bars) r b c (inr m) (inl k) e =
    let up = rising_above a.id (map (λ b. b.id) bars) r b.id (map_from (λ b. b.id) bars b m) in
    let is : a.id ≡ c.id = ap (λ (x : Bar). x.id) (sym k) in
    absurd (omega arith)
one_bar (a ∷ bars) r b c (inr m) (inr k) e = one_bar bars (rising_tail a.id (map (λ b. b.id) bars) r) b c m k e

module _ (ns : List (List ℕ)) (bars : List Bar) where
  abbrev written : Lists
  written = laid_flat (given_of ns bars)

  pub terms_are : (given written).terms ≡ terms_of 0 ns bars
  unfolding given_of
  terms_are = ap (λ (g : Given). g.terms) (given_back (given_of ns bars))

  pub documents_are : map (λ d. d.id) (given written).documents ≡ map (λ b. b.id) bars
  unfolding given_of
  documents_are = ap (λ (g : Given). map (λ d. d.id) g.documents) (given_back (given_of ns bars)) ∙ ids_are bars

  -- the bar under an id has a hit of that name on that step
  abbrev BarHas : ℕ → List ℕ → ℕ → Type 0
  BarHas d name p = (b : Bar) × (b ∈ bars) × (b.id ≡ d) × HasHit ns b name p

  module _ (many : length ns ≡ 128) (fine : (b : Bar) → b ∈ bars → HitsFine b.len b.hits) where
    own_are : (d : ℕ) (name : List ℕ) (p : ℕ) → (p ∈ own written d name) ↔ BarHas d name p
    own_are d name p = (to, from)
      where
        to : p ∈ own written d name → BarHas d name p
        to m =
            let s = (own_stands written d name p).0 m in
            let o = terms_gives 0 ns bars s.term (subst (λ ts. s.term ∈ ts) terms_are s.handed_in) in
            let (b, held, is, _) = postings_gives (0 + o.place) bars s.posting
            (subst (λ ps. s.posting ∈ ps) o.postings_are s.under) in
            let (h, mine, sound, on) = steps_gives (0 + o.place) b.hits p (rw is at s.on) in
            let place : h.sound ≡ o.place = sound ∙ zero-add o.place in (
              b,
              held,
              of_posting s.posting (bar_posting (0 + o.place) b) is s.of,
              record { hit = h; own = mine; named = ap (λ i. get_or ns i []) place ∙ sym o.name_is ∙ s.of_name; on = on },
            )

        from : BarHas d name p → p ∈ own written d name
        from (b, held, is, w) =
            let h = w.hit in
            let s = h.sound in
            let low = (fine b held).sounds h w.own in
            let on = steps_from s b.hits h w.own refl in
            let under = postings_from s bars b held (in_some (steps_of s b.hits) h.step on) in
            let here : 0 + s ≡ s = zero-add s in
            let there = terms_from 0 ns bars s (omega arith) (rw here (in_some (postings_of s bars) _ under)) in
            (own_stands written d name p).1
            (record {
              term = term (get_or ns s []) (postings_of s bars);
              posting = posting b.id (steps_of s b.hits);
              handed_in = rw terms_are (subst (λ k. term (get_or ns s []) (postings_of k bars) ∈ terms_of 0 ns bars) here there);
              of_name = w.named;
              under = under;
              of = is;
              on = rw (← w.on) on;
            })

    module _ (rise : Rising (map (λ b. b.id) bars)) (phrase : List (List ℕ)) (some : 1 ≤ length phrase) where
      -- a document meets the phrase exactly when the bar's own hits do
      meets_gives : (d : ℕ) → HasPhrase (own written d) phrase → (b : Bar) × (b ∈ bars) × (b.id ≡ d) × HitsMeet ns phrase b
      meets_gives d w =
          let hits : (i : ℕ) → i < length phrase → BarHas d (get_or phrase i []) (w.start + i) =
          λ i h. (own_are d (get_or phrase i []) (w.start + i)).0 (w.on i h) in
          let (b, held, is, _) = hits 0 some in (
            b,
            held,
            is,
            record {
              start = w.start;
              on = λ i h.
                  let (c, also, too, there) = hits i h in
                  subst (λ q. HasHit ns q (get_or phrase i []) (w.start + i)) (one_bar bars rise c b also held (too ∙ sym is)) there;
            },
          )

      meets_from : (b : Bar) → b ∈ bars → HitsMeet ns phrase b → HasPhrase (own written b.id) phrase
      meets_from b held w = record {
        start = w.start;
        on = λ i h. (own_are b.id (get_or phrase i []) (w.start + i)).1 (b, held, refl, w.on i h);
      }

      known : (b : Bar) → b ∈ bars → b.id ∈ map (λ d. d.id) (given written).documents
      known b held = rw documents_are (map_from (λ b. b.id) bars b held)

      those_agree : (ids : List ℕ) → ThoseThatMeet written Phrase phrase ids ↔ BarsThatMeet bars ns phrase ids
      those_agree ids = (
        λ those. record {
          only = λ d m. meets_gives d (those.only d m).1;
          every = λ b held w. those.every b.id (known b held) (meets_from b held w);
          rising = those.rising;
        },
        λ those. record {
          only = λ d m.
              let (b, held, is, w) = those.only d m in
              subst (λ q. (q ∈ map (λ d. d.id) (given written).documents) × HasPhrase (own written q) phrase) is
              (known b held, meets_from b held w);
          every = λ d m w. let (b, held, is, met) = meets_gives d w in subst (λ q. q ∈ ids) is (those.every b held met);
          rising = those.rising;
        },
      )

pub own_hits : OwnHits
own_hits pad text ends w n = own_are (names 0 ends text) (held pad) (names_count 0 ends text ∙ n.number) w.each

pub bars_agree : BarsAgree
bars_agree pad text ends w n =
    those_agree (names 0 ends text) (held pad) (names_count 0 ends text ∙ n.number) w.each w.ids_rise
