use Rattle.ask_names.proofs.Leads.{Turned}
use Rattle.ask_names.proofs.slots.Names.lead_with_rarest.Given as goal

abbrev pub invariant-loop-slot : goal.invariant-loop-slot
invariant-loop-slot l = Turned l.b l.initial.slot-items l.slot-items l.slot-index
