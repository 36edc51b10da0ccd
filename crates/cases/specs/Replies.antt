-- The C interface's one reply, of each call's answer: kind 0 with the answer's numbers, or a refusal's three numbers and zeros.
use Rattle.cases.specs.Digits.{refusal_of}
use Rattle.std.specs.Prelude.{Err, None, Ok, Some, ℕ, ◌≡◌, refl}
use Rattle.segment.specs.declared.refusal.Refusal.{Refusal}
use Rattle.c_reply.specs.declared.reply.Reply.{Reply}
use Rattle.c_reply.specs.Replies.{opened_reply, length_reply, frequency_reply, counted_reply, listed_reply, written_reply, imported_reply}
use Rattle.c_reply.specs.Replies.{bar_read_reply, hits_reply}

abbrev reply : (kind which index first second third fourth : ℕ) → Reply
reply k w i a b c d = record { kind = k; which = w; index = i; first = a; second = b; third = c; fourth = d }

-- three different numbers
abbrev some_refusal : Refusal
some_refusal = refusal_of 13 2 5

-- documents first, terms second. Fails: the two exchanged, kind 1 for acceptance
of_opened : opened_reply (Ok (record { documents = 2; terms = 3 })) ≡ reply 0 0 0 2 3 0 0
of_opened = refl

-- 1 and the length. Fails: the length alone
of_known : length_reply ((Ok (Some 16))) ≡ reply 0 0 0 1 16 0 0
of_known = refl

-- a known document of length 0 is not an absent one. Fails: absence told by the length
of_empty : length_reply ((Ok (Some 0))) ≡ reply 0 0 0 1 0 0 0
of_empty = refl

of_absent : length_reply (Ok None) ≡ reply 0 0 0 0 0 0 0
of_absent = refl

of_df : frequency_reply (Ok 2) ≡ reply 0 0 0 2 0 0 0
of_df = refl

of_counted : counted_reply (Ok 2) ≡ reply 0 0 0 2 0 0 0
of_counted = refl

-- postings first, positions second. Fails: the two exchanged
of_totals : listed_reply (Ok (record { postings = 2; positions = 4 })) ≡ reply 0 0 0 2 4 0 0
of_totals = refl

of_written : written_reply (Ok 165) ≡ reply 0 0 0 165 0 0 0
of_written = refl

-- bars, sounds, postings, positions. Fails: two of them exchanged
of_imported : imported_reply (Ok (record { documents = 2; terms = 3; postings = 4; positions = 6 })) ≡ reply 0 0 0 2 3 4 6
of_imported = refl

-- hits first, the length second. Fails: the two exchanged
of_bar_read : bar_read_reply (Ok (record { hits = 5; len = 16 })) ≡ reply 0 0 0 5 16 0 0
of_bar_read = refl

-- Fails: the stored number taken for a refusal's
of_hits : hits_reply 4294967295 ≡ reply 0 0 0 4294967295 0 0 0
of_hits = refl

-- a refusal has its three numbers, and zeros. Fails: which and index exchanged, kind 0 for a refusal
opened_refused : opened_reply (Err some_refusal) ≡ reply 13 2 5 0 0 0 0
opened_refused = refl

length_refused : length_reply (Err some_refusal) ≡ reply 13 2 5 0 0 0 0
length_refused = refl

df_refused : frequency_reply (Err some_refusal) ≡ reply 13 2 5 0 0 0 0
df_refused = refl

counted_refused : counted_reply (Err some_refusal) ≡ reply 13 2 5 0 0 0 0
counted_refused = refl

listed_refused : listed_reply (Err some_refusal) ≡ reply 13 2 5 0 0 0 0
listed_refused = refl

written_refused : written_reply (Err some_refusal) ≡ reply 13 2 5 0 0 0 0
written_refused = refl

imported_refused : imported_reply (Err some_refusal) ≡ reply 13 2 5 0 0 0 0
imported_refused = refl

bar_read_refused : bar_read_reply (Err some_refusal) ≡ reply 13 2 5 0 0 0 0
bar_read_refused = refl
