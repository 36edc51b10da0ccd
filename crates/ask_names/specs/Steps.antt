-- The names resolved: what they are held as after each name.
use Rattle.std.specs.Prelude.{None, Option, Some, ℕ, zero, suc, ◌+◌, ◌≤◌, ◌<◌, ◌≡◌, Bool, true, false, cond, eqb, ◌↔◌}
use Rattle.std.specs.Prelude.{List, [], ◌∷◌, length, get_or, set, replicate}
use Rattle.read_terms.specs.declared.find.TermList.{TermList}
use Rattle.ask_names.specs.declared.slots.Names.{Names}
use Rattle.rules.specs.Words.{mentions}
use Rattle.read_open.specs.declared.header.Layout.{Layout}
use Rattle.read_terms.specs.Steps.{TermIsFound}

abbrev pub no_list : TermList
no_list = record { entry = 0; start = 0; end = 0; df = 0; checksum = 0 }

abbrev pub no_slots : Names
no_slots = record {
  taken = 0;
  different = 0;
  absent = false;
  slot = replicate 128 0;
  list = replicate 128 no_list;
  wanted = replicate 128 0;
}

-- the least index from k on, of n, at which xs has a list with the entry x; or the index after these
unfoldable pub slot_from : (n k : ℕ) (xs : List TermList) (x : ℕ) → ℕ
slot_from zero k xs x = k
slot_from (suc n) k xs x = let later = slot_from n (suc k) xs x in cond (eqb (get_or xs k no_list).entry x) k later

abbrev pub slot_for : (different : ℕ) (lists : List TermList) (entry : ℕ) → ℕ
slot_for different lists entry = slot_from different 0 lists entry

-- a term that was named before is counted; a new one gets the next number
abbrev pub counted_in : (new : Bool) (s : Names) (k : ℕ) (l : TermList) → Names
counted_in true s k l = record {
  taken = s.taken + 1;
  different = s.different + 1;
  absent = s.absent;
  slot = set s.slot s.taken k;
  list = set s.list k l;
  wanted = set s.wanted k (get_or s.wanted k 0 + 1);
}
counted_in false s k l = record {
  taken = s.taken + 1;
  different = s.different;
  absent = s.absent;
  slot = set s.slot s.taken k;
  list = s.list;
  wanted = set s.wanted k (get_or s.wanted k 0 + 1);
}

abbrev pub with_found : Names → Option TermList → Names
with_found s (Some l) =
    let k = slot_for s.different s.list l.entry in
    counted_in (eqb k s.different) s k l
with_found s None = record {
  taken = s.taken + 1;
  different = s.different;
  absent = true;
  slot = s.slot;
  list = s.list;
  wanted = s.wanted;
}

-- all names of a question, one after the other
unfoldable pub resolved : Names → List (Option TermList) → Names
resolved s [] = s
resolved s (f ∷ fs) = resolved (with_found s f) fs

-- each name with what was found for it; `R n f` says that f is what was found for the name n
pub data Founds (R : List ℕ → Option TermList → Type 0) : List (List ℕ) → List (Option TermList) → Type 0 where
  none_left : Founds R [] []
  one_more : {n : List ℕ} {f : Option TermList} {ns : List (List ℕ)} {fs : List (Option TermList)} → R n f → Founds R ns fs
      → Founds R (n ∷ ns) (f ∷ fs)

-- there is room for one name more
pub record Room (s : Names) : Type 0 where
  pub place : s.taken < 128
  pub few : s.different ≤ s.taken
  pub counts : (k : ℕ) → get_or s.wanted k 0 ≤ s.taken

-- The names by the numbers of their terms.

-- n names, each with the number of a term
pub record InSlots (n : ℕ) (slot : List ℕ) : Type 0 where
  pub few : n ≤ 128
  pub long : length slot ≡ 128
  pub inside : (i : ℕ) → i < n → get_or slot i 0 < 128

-- the numbers of the names' terms: two names have one number exactly when they are the same; each number below m is some name's; and
-- each name's number is counted as often as the name is mentioned
pub record Numbered (n : ℕ) (slot : List ℕ) (m : ℕ) (wanted : List ℕ) (ns : List (List ℕ)) : Type 0 where
  pub taken : length ns ≡ n
  pub below : (i : ℕ) → i < n → get_or slot i 0 < m
  pub alike : (i j : ℕ) → i < n → j < n → (get_or slot i 0 ≡ get_or slot j 0) ↔ (get_or ns i [] ≡ get_or ns j [])
  pub each : (k : ℕ) → k < m → (i : ℕ) × (i < n) × (get_or slot i 0 ≡ k)
  pub counted : (i : ℕ) → i < n → get_or wanted (get_or slot i 0) 0 ≡ mentions (get_or ns i []) ns

-- The names resolved in an open segment, and their lists decoded.

-- s is what the names resolve to, one after the other
pub record NamesResolved (bytes : List ℕ) (at : Layout) (ns : List (List ℕ)) (s : Names) : Type 0 where
  pub founds : List (Option TermList)
  pub each : Founds (TermIsFound bytes at) ns founds
  pub slots : s ≡ resolved no_slots founds
