-- A segment is whole exactly when it opens and every list of its directory decodes; then the list of any name decodes.
-- Assumes nothing.
use Rattle.std.specs.Prelude.{Ok, Some}
use mathlib.Core.Path.{◌≡◌, refl}
use mathlib.Core.Bool.{Bool, true, false, cond}
use mathlib.Core.List.{List, [], ◌∷◌}
use mathlib.Core.Logic.{inl, inr}
use Prim.Native.Nat.{ℕ}
use native.Mathlib.Omega.{arith}
use Rattle.common.specs.Elements.{◌∈◌}
use Rattle.segment.specs.Records.{Document, Posting, Term, Entry, Segment, Given}
use Rattle.segment.specs.Names.{same}
use Rattle.segment.specs.Directory.{entry_of}
use Rattle.segment.specs.Postings.{decode}
use Rattle.segment.specs.Opening.{open_segment}
use Rattle.segment.specs.Contents.{decode_all, decode_segment}
use Rattle.segment.proofs.Binds.{bind_gives, ok_same}
use Rattle.calls.specs.Whole.{every_list, whole_segment}
use Rattle.calls.specs.Claims.{WholeExactly}

abbrev pub Decodes : List Document → Entry → Type 0
Decodes documents e = (ps : List Posting) × (decode documents e ≡ Ok ps)

-- ---- the lists

module _ (documents : List Document) where
  all_gives : (es : List Entry) {ts : List Term} → decode_all documents es ≡ Ok ts → (e : Entry) → e ∈ es → Decodes documents e
  unfolding decode_all
  all_gives [] t e m = absurd m
  all_gives (x ∷ es) t e (inl q) = let (ps, d, _) = bind_gives (decode documents x) _ t in (ps, rw q d)
  all_gives (x ∷ es) t e (inr m) =
      let (_, _, f) = bind_gives (decode documents x) _ t in
      let (_, more, _) = bind_gives (decode_all documents es) _ f in
      all_gives es more e m

  all_from : (es : List Entry) → ((e : Entry) → e ∈ es → Decodes documents e) → (ts : List Term) × (decode_all documents es ≡ Ok ts)
  unfolding decode_all
  all_from [] h = ([], refl)
  all_from (x ∷ es) h =
      let (ps, d) = h x (inl refl) in
      let (ts, more) = all_from es (λ e m. h e (inr m)) in
      (record { name = x.name; postings = ps } ∷ ts, rw (d, more))

pub lists_give : (s : Segment) → every_list s ≡ Ok tt → (e : Entry) → e ∈ s.entries → Decodes s.documents e
lists_give s t = let (_, d, _) = bind_gives (decode_all s.documents s.entries) _ t in all_gives s.documents s.entries d

-- the entry of a name is one of the entries
entry_in : (es : List Entry) (name : List ℕ) {e : Entry} → entry_of es name ≡ Some e → e ∈ es
unfolding entry_of
entry_in [] name q = let z : ◌≡◌ {A = ℕ} 0 1 = cc in absurd (omega arith)
entry_in (x ∷ es) name {e} q = step (same x.name name) q (λ r. entry_in es name r)
  where
    step : (t : Bool) → cond t (Some x) (entry_of es name) ≡ Some e → (entry_of es name ≡ Some e → e ∈ es) → e ∈ (x ∷ es)
    step true r later = let f : e ≡ x = cc in inl f
    step false r later = inr (later r)

pub name_gives : (s : Segment) (name : List ℕ) {e : Entry} → every_list s ≡ Ok tt → entry_of s.entries name ≡ Some e
    → Decodes s.documents e
name_gives s name {e} t q = lists_give s t e (entry_in s.entries name q)

-- ---- the segment

-- the two parts of a whole segment
pub whole_gives : (bytes : List ℕ) {s : Segment} → whole_segment bytes ≡ Ok s → (open_segment bytes ≡ Ok s) × (every_list s ≡ Ok tt)
unfolding whole_segment
whole_gives bytes e =
    let (t, o, f) = bind_gives (open_segment bytes) _ e in
    let (u, l, g) = bind_gives (every_list t) _ f in
    let w : (open_segment bytes ≡ Ok t) × (every_list t ≡ Ok tt) = (o, l) in
    rw (ok_same g) at w

whole_from : (bytes : List ℕ) (s : Segment) {ts : List Term} → open_segment bytes ≡ Ok s → decode_all s.documents s.entries ≡ Ok ts
    → whole_segment bytes ≡ Ok s
unfolding whole_segment
whole_from bytes s o d = rw (o, d)

pub whole_exactly : WholeExactly
whole_exactly bytes s = (
  λ e. let (o, l) = whole_gives bytes e in record { opens = o; lists = lists_give s l },
  λ w. whole_from bytes s w.opens (all_from s.documents s.entries w.lists).1,
)

-- what can be decoded to what it says is whole
pub decoded_whole : (bytes : List ℕ) {g : Given} → decode_segment bytes ≡ Ok g → (s : Segment) × (whole_segment bytes ≡ Ok s)
unfolding decode_segment
decoded_whole bytes e =
    let (s, o, f) = bind_gives (open_segment bytes) _ e in
    let (ts, d, _) = bind_gives (decode_all s.documents s.entries) _ f in
    (s, whole_from bytes s o d)
