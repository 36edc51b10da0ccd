-- The C interface's one reply, made of each call's answer: kind 0 is acceptance, with the answer's numbers first to fourth, 0 where there
-- are fewer; a refusal has its three numbers, and zeros.
use Rattle.segment.specs.Refusals.{numbers}
use Rattle.std.specs.Prelude.{Err, None, Ok, Option, Some, ℕ, ◌≡◌}
use Rattle.segment.specs.Results.{Answer}
use Rattle.segment.specs.declared.replies.Counts.{Counts}
use Rattle.segment.specs.declared.replies.ListTotals.{ListTotals}
use Rattle.segment.specs.declared.replies.Totals.{Totals}
use Rattle.segment.specs.declared.refusal.Numbers.{Numbers}
use Rattle.segment.specs.declared.refusal.Refusal.{Refusal}
use Rattle.segment.specs.declared.replies.BarRead.{BarRead}
use Rattle.c_reply.specs.declared.reply.Reply.{Reply}

abbrev pub accepted_four : (first second third fourth : ℕ) → Reply
accepted_four a b c d = record { kind = 0; which = 0; index = 0; first = a; second = b; third = c; fourth = d }

abbrev pub accepted : (first second : ℕ) → Reply
accepted a b = accepted_four a b 0 0

-- a refusal by its three numbers, whichever they are
abbrev pub refused_with : Numbers → Reply
refused_with x = record { kind = x.kind; which = x.which; index = x.index; first = 0; second = 0; third = 0; fourth = 0 }

abbrev pub refused : Refusal → Reply
refused x = refused_with (numbers x)

-- documents and terms
abbrev pub opened_reply : Answer Counts → Reply
opened_reply (Ok c) = accepted c.documents c.terms
opened_reply (Err x) = refused x

-- 1 and the length, or 0 and 0 where the document is unknown
abbrev pub length_reply : Answer (Option ℕ) → Reply
length_reply (Ok (Some n)) = accepted 1 n
length_reply (Ok None) = accepted 0 0
length_reply (Err x) = refused x

-- how many: elements that were stored, or bytes that were written
abbrev pub counted_reply : Answer ℕ → Reply
counted_reply (Ok n) = accepted n 0
counted_reply (Err x) = refused x

-- the df
abbrev pub frequency_reply : Answer ℕ → Reply
frequency_reply = counted_reply

-- postings and positions
abbrev pub listed_reply : Answer Totals → Reply
listed_reply (Ok t) = accepted t.postings t.positions
listed_reply (Err x) = refused x

-- how many bytes
abbrev pub written_reply : Answer ℕ → Reply
written_reply = counted_reply

-- documents (bars), terms (sounds), postings and positions
abbrev pub imported_reply : Answer ListTotals → Reply
imported_reply (Ok t) = accepted_four t.documents t.terms t.postings t.positions
imported_reply (Err x) = refused x

-- hits of a bar read back, and its length
abbrev pub bar_read_reply : Answer BarRead → Reply
bar_read_reply (Ok bar) = accepted bar.hits bar.len
bar_read_reply (Err x) = refused x

-- the stored number of hits; that call has no refusal
abbrev pub hits_reply : ℕ → Reply
hits_reply n = accepted n 0

-- A call behind the interface answered `a`, of which its promise holds; the reply is that answer's.
pub record Replied {A : Type 0} (of : A → Reply) (Promise : A → Type 0) (r : Reply) : Type 0 where
  pub answer : A
  pub promise : Promise answer
  pub reply : r ≡ of answer
