-- The fronts of the first eight buffers, which hold the writer's lists: as many places as the importer's reply says; each name has four
-- bytes.
use Rattle.std.specs.Prelude.{◌*◌, ◌≤◌, length, take}
use Rattle.segment.specs.declared.replies.ListTotals.{ListTotals}
use Rattle.calls.specs.Given.{Lists, lists}

abbrev pub fronts : ListTotals → Lists → Lists
fronts t b =
    lists (take t.documents b.ids) (take t.documents b.lengths) (take (4 * t.terms) b.text) (take t.terms b.ends)
    (take t.terms b.posting_counts) (take t.postings b.posting_ids) (take t.postings b.position_counts)
    (take t.positions b.positions)

-- the buffers have these places
pub record HasFronts (t : ListTotals) (b : Lists) : Type 0 where
  pub ids : t.documents ≤ length b.ids
  pub lengths : t.documents ≤ length b.lengths
  pub text : 4 * t.terms ≤ length b.text
  pub ends : t.terms ≤ length b.ends
  pub posting_counts : t.terms ≤ length b.posting_counts
  pub posting_ids : t.postings ≤ length b.posting_ids
  pub position_counts : t.postings ≤ length b.position_counts
  pub positions : t.positions ≤ length b.positions
