use Rattle.std.specs.Prelude.{Ok}
use mathlib.Core.Path.{◌≡◌, sym, ap, ◌∙◌}
use lib.ListN.{drop}
use borrow.Author.Rules.{rules}
use native.Mathlib.Omega.{arith}
use Rattle.segment.specs.Steps.{id_of}
use Rattle.read_cursors.specs.Steps.{value_means}
use Rattle.read_cursors.specs.Held.{value_at}
use Rattle.read_cursors.proofs.Entering.{read_to, value_ok, value_refused, postings_end, postings_refused, postings_half, postings_next}
use Rattle.read_cursors.proofs.postings.Postings.enter.Goals as goal
use Rattle.read_cursors.proofs.postings.Postings.enter.Goals.{In-Ok, After-map}

-- the number of the id before
before : (c : After-map) → c.map.result ≡ id_of c.args.previous
before c = grind arith

-- the value that the code found
found : (c : In-Ok) → (c.map.result ≡ id_of c.args.previous) → let a = c.args in
    value_at (id_of a.previous) (drop a.from.at a.bytes.now) ≡ Ok (read_to c.in-Ok.gap a.bytes.now)
found c e = rw (← e) (value_ok _ _ _ _ _ _ _ _ (sym c.read_value.ensures ∙ ap (value_means c.args.bytes.now) c.in-Ok.is))

pub returns-then-remaining-eq0 : goal.returns-then-remaining-eq0
returns-then-remaining-eq0 c =
    let a = c.args in
    record { holds = postings_end a.bytes.now a.from.at _ a.remaining _ _ _ c.if-remaining-eq0.true; less = search rules }

pub returns-in_default : goal.returns-in_default
returns-in_default c =
    let a = c.args in
    let s = a.bytes.now in
    let e = sym c.read_value.ensures ∙ ap (value_means s) c.in_default.is in
    record {
      holds = rw (← before (goal.at.returns-in_default c).After-map) (postings_refused s a.from.at _ a.remaining _ _ _ (value_refused _ _ _ _ _ _ _ _ e).1);
      less = search rules;
    }

pub returns-in_default-decode_u32 : goal.returns-in_default-decode_u32
returns-in_default-decode_u32 c =
    let a = c.args in
    record {
      holds =
          postings_half a.bytes.now a.from.at _ c.in-Ok.gap (found (goal.at.returns-in_default-decode_u32 c).In-Ok (before (goal.at.returns-in_default-decode_u32 c).After-map)) a.remaining _ _ _
          (sym c.decode_u32.ensures ∙ c.in_default-decode_u32.is);
      less = search rules;
    }

pub returns : goal.returns
returns c =
    let a = c.args in
    record {
      holds =
          postings_next a.bytes.now a.from.at _ c.in-Ok.gap (found (goal.at.returns c).In-Ok (before (goal.at.returns c).After-map)) a.remaining
          (sym c.decode_u32.ensures ∙ c.in-Some.is);
      less = search rules;
    }
