-- A bar's own positions are those on which the file plays, and so phrases are met alike.
-- Assumes nothing.
use mathlib.Core.Path.{◌≡◌, refl}
use mathlib.Core.List.{List, [], ◌∷◌, map}
use Prim.Native.Nat.{ℕ, ◌+◌, ◌*◌, ◌≤◌, ◌<◌}
use native.Mathlib.Omega.{arith}
use lib.ListN.{length, get_or}
use Rattle.common.specs.Elements.{◌∈◌}
use Rattle.common.specs.Lists.{paired}
use Rattle.segment.specs.Records.{Document}
use Rattle.segment.specs.Metadata.{document}
use Rattle.calls.specs.Given.{Lists, given}
use Rattle.midi_read.specs.declared.track.Hit.{Hit}
use Rattle.midi_bars.specs.Bars.{name_of}
use Rattle.midi_bars.specs.Words.{Plays, PlaysPhrase}
use Rattle.midi_bars.specs.Claims.{Listed, UpToAHit}
use Rattle.claim_joint.specs.Own.{own}
use Rattle.claim_joint.proofs.Owned.{own_stands}
use Rattle.claim_import.specs.Claims.{OwnNotes, PhraseNotes, BarsAgree}

-- ---- the two ways of saying that a position stands in the lists

module _ (l : Lists) (bar : ℕ) (name : List ℕ) (p : ℕ) where
  own_listed : p ∈ own l bar name → Listed (given l) name bar p
  own_listed m =
      let s = (own_stands l bar name p).0 m in
      record {
        term = s.term;
        posting = s.posting;
        handed_in = s.handed_in;
        named = s.of_name;
        under = s.under;
        of = s.of;
        on = s.on;
      }

  listed_own : Listed (given l) name bar p → p ∈ own l bar name
  listed_own s = (own_stands l bar name p).1 (record {
    term = s.term;
    posting = s.posting;
    handed_in = s.handed_in;
    of_name = s.named;
    under = s.under;
    of = s.of;
    on = s.on;
  })

pub own_notes : OwnNotes
own_notes steps quarter file hs l held bar name p = (to, from)
  where
    to : p ∈ own l bar name → (note : ℕ) × (name ≡ name_of note) × (p < steps) × Plays quarter file hs note (steps * bar + p)
    to m =
        let s = own_listed l bar name p m in
        let (note, _, e, inside) = held.only name bar p s in
        (note, e, inside, (held.exactly note bar p inside).0 (rw e at s))

    from : (note : ℕ) × (name ≡ name_of note) × (p < steps) × Plays quarter file hs note (steps * bar + p) → p ∈ own l bar name
    from (note, e, inside, w) = listed_own l bar name p (rw e ((held.exactly note bar p inside).1 w))

pub phrase_notes : PhraseNotes
phrase_notes steps quarter file hs l held bar names = (
  λ w. record {
    start = w.start;
    on = λ i h. (own_notes steps quarter file hs l held bar (get_or names i []) (w.start + i)).0 (w.on i h);
  },
  λ w. record {
    start = w.start;
    on = λ i h. (own_notes steps quarter file hs l held bar (get_or names i []) (w.start + i)).1 (w.on i h);
  },
)

-- ---- the bars

ids_back : (ids lengths : List ℕ) → length ids ≡ length lengths → map (λ (d : Document). d.id) (paired document ids lengths) ≡ ids
ids_back [] [] e = refl
ids_back [] (y ∷ ys) e = absurd (omega arith)
ids_back (x ∷ xs) [] e = absurd (omega arith)
ids_back (x ∷ xs) (y ∷ ys) e = rw (ids_back xs ys (omega arith))

documents_are : (l : Lists) → length l.ids ≡ length l.lengths → map (λ d. d.id) (given l).documents ≡ l.ids
unfolding given
documents_are l e = ids_back l.ids l.lengths e

-- a bar in which a phrase is played is a bar up to the last with a hit
played_in : (steps quarter : ℕ) (file : List ℕ) (hs : List Hit) (bar : ℕ) (names : List (List ℕ)) → 1 ≤ length names
    → PlaysPhrase steps quarter file hs bar names → UpToAHit steps quarter file hs bar
played_in steps quarter file hs bar names some w =
    let (note, _, inside, plays) = w.on 0 some in
    record { later = bar; note = note; position = w.start + 0; from_here = omega arith; inside = inside; plays = plays }

pub bars_agree : BarsAgree
bars_agree steps quarter file hs l held same names some ids = (
  λ those. record {
    only = λ bar m. (phrase_notes steps quarter file hs l held bar names).0 (those.only bar m).1;
    every = λ bar w. those.every bar
        (rw (documents_are l same) ((held.bars bar).1 (played_in steps quarter file hs bar names some w)))
        ((phrase_notes steps quarter file hs l held bar names).1 w);
    rising = those.rising;
  },
  λ those. record {
    only = λ bar m.
        let w = those.only bar m in (
          rw (documents_are l same) ((held.bars bar).1 (played_in steps quarter file hs bar names some w)),
          (phrase_notes steps quarter file hs l held bar names).1 w,
        );
    every = λ bar m w. those.every bar ((phrase_notes steps quarter file hs l held bar names).0 w);
    rising = those.rising;
  },
)
