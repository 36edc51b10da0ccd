-- The sheet that is computed is the bar on paper in words, and the other way round.
-- Assumes nothing.
use Rattle.std.specs.Prelude.{None, Ok, Option, Some}
use mathlib.Core.Path.{◌≡◌, ap, ◌∙◌, subst}
use mathlib.Core.List.{List}
use Prim.Native.Nat.{ℕ, ◌≤◌}
use native.Mathlib.Omega.{arith}
use lib.Dec.{leb}
use borrow.Author.Tests.{leb-true, le-leb}
use Rattle.segment.specs.Refusals.{bar_too_long}
use Rattle.segment.specs.Records.{Term, Segment}
use Rattle.segment.specs.Metadata.{length_of}
use Rattle.segment.specs.Opening.{open_segment}
use Rattle.segment.specs.Contents.{decode_all}
use Rattle.segment.proofs.Binds.{bind_gives, ok_same, refuse_ok}
use Rattle.segment.proofs.Accepted.{check_gives}
use Rattle.calls.specs.Sheet.{sheet, known_bar, bar_sheet}
use Rattle.claim_sheet.specs.Words.{OnPaper}
use Rattle.claim_sheet.specs.Claims.{HasBar, InWords, SheetInWords}
use Rattle.claim_sheet.proofs.BarKnown.{bar_small, bar_gives, bar_from}
use Rattle.claim_sheet.proofs.Decoding.{all_fit}
use Rattle.claim_sheet.proofs.Drawn.{on_paper}
use Rattle.claim_sheet.proofs.Same.{one_sheet}

pub known_some : (o : Option ℕ) {len : ℕ} → known_bar o ≡ Ok len → o ≡ Some len
known_some None e = refuse_ok e
known_some (Some n) e = ap Some (ok_same e)

module _ (bytes : List ℕ) (id : ℕ) where
  module _ {s : Segment} {len : ℕ} {ts : List Term} (opens : open_segment bytes ≡ Ok s) (known : HasBar s id len)
      (short : len ≤ 64) (all : decode_all s.documents s.entries ≡ Ok ts) where
    -- what is computed, once all that may be refused is not
    pub computed : bar_sheet bytes id ≡ Ok (sheet id len ts)
    unfolding bar_sheet
    computed = rw (opens, bar_from bytes opens id len known, le-leb len 64 short, all)

    pub shown_paper : OnPaper id len ts (sheet id len ts)
    shown_paper =
        let small = bar_small bytes opens id len known in
        on_paper id len short (omega arith) ts (all_fit s.documents id len (bar_from bytes opens id len known) s.entries all)

  module _ (text : List ℕ) where
    gives : bar_sheet bytes id ≡ Ok text → InWords bytes id text
    unfolding bar_sheet
    gives e =
        let (s, opens, f) = bind_gives (open_segment bytes) _ e in
        let (len, k, g) = bind_gives (known_bar (length_of s.documents id)) _ f in
        let (t, h) = check_gives (leb len 64) bar_too_long _ g in
        let (ts, all, i) = bind_gives (decode_all s.documents s.entries) _ h in
        let known = bar_gives bytes opens id len (known_some (length_of s.documents id) k) in
        let short = leb-true len 64 t in
        record {
          segment = s;
          opens = opens;
          len = len;
          known = known;
          short = omega arith;
          sounds = ts;
          decoded = all;
          on_paper = subst (OnPaper id len ts) (ok_same i) (shown_paper opens known short all);
        }

    from : InWords bytes id text → bar_sheet bytes id ≡ Ok text
    from w =
        let is = one_sheet id w.len w.sounds _ text (shown_paper w.opens w.known w.short w.decoded) w.on_paper in
        computed w.opens w.known w.short w.decoded ∙ ap Ok is

pub sheet_in_words : SheetInWords
sheet_in_words bytes id text = (gives bytes id text, from bytes id text)
