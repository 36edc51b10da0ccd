use Rattle.std.proofs.lemmas.Result.{err_from_is_err_and}
use mathlib.Core.Path.{◌≡◌}
use Prim.Native.Nat.{ℕ, ◌-◌, ◌*◌}
use lib.ListN.{drop, length-drop}
use native.Mathlib.Omega.{arith}
use Rattle.read_open.proofs.Checks.{to_end, next_name, next_inside, stopped}
use Rattle.read_open.specs.Steps.{WalkedEntry}
use Rattle.read_open.proofs.Entries.{wrong_length, right_length, entries_next, entries_stop, entries_end}
use Rattle.read_open.proofs.directory.decode_term_directory.Goals as goal
use Rattle.read_open.proofs.directory.decode_term_directory.Goals.{After-check_entry}

-- what was read at entry i
walked : (c : After-check_entry)
    → WalkedEntry c.loop-i.previous (drop (c.loop-i.i * 32) c.args.dir.now) c.args.names.now c.args.lists.now c.check_entry.result
walked c = rw (to_end _ _) at c.check_entry.ensures

pub returns-then-dir-terms : goal.returns-then-dir-terms
returns-then-dir-terms c = wrong_length _ _ _ _ (λ e. c.if-dir-terms.true (omega (arith, c.long-terms.ensures, e)))

pub loop-i-init : goal.loop-i-init
loop-i-init c =
    let l = c.long-terms in
    let e : l.result - 0 ≡ c.args.count = omega arith in
    (c.if-dir-terms.false, λ p q. let z : ◌≡◌ {A = ℕ} 0 1 = cc in absurd (omega arith), rw e (right_length _ _ _ _ (omega arith)))

pub check_entry-requires : goal.check_entry-requires
check_entry-requires c = (rw (to_end _ _) (simp length-drop (omega arith)), c.loop-i.invariant.1)

pub loop-i-preserved : goal.loop-i-preserved
loop-i-preserved c =
    let l = c.loop-i in
    let w = walked (goal.at.loop-i-preserved c).After-check_entry in
    (l.invariant.0, λ p q. let same : c.in_ok-name.name ≡ p = cc in rw same at (next_inside w c.in_ok-name.was), entries_next _ _ _ _ _ _ l.invariant.2 (omega arith) (next_name w c.in_ok-name.was))

pub returns-in_err-name : goal.returns-in_err-name
returns-in_err-name c =
    let p = err_from_is_err_and c.from_residual.result c.from_residual.ensures.1 in
    rw (p.1, p.2)
    (entries_stop _ _ _ _ _ _ c.loop-i.invariant.2 (omega arith)
    (stopped (walked (goal.at.returns-in_err-name c).After-check_entry) c.in_err-name.was))

pub returns : goal.returns
returns c = entries_end _ _ _ _ _ _ c.loop-i.invariant.2 (omega arith)
