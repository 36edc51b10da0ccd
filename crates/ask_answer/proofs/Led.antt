-- The rarest list leads: an answer from list 0 after the change is one from list b before it.
-- Assumes nothing.
use Rattle.segment.specs.Results.{Answer}
use mathlib.Core.Path.{◌≡◌, refl, sym, ap, ◌∙◌}
use mathlib.Core.List.{List}
use Prim.Native.Nat.{ℕ}
use lib.ListN.{length, get_or}
use Rattle.std.specs.List.{SwappedAt}
use Rattle.rules.specs.declared.rule.Rule.{Rule}
use Rattle.calls.specs.Lookups.{positions_of}
use Rattle.read_terms.specs.declared.find.TermList.{TermList}
use Rattle.ask_names.specs.declared.slots.Names.{Names}
use Rattle.ask_names.specs.Steps.{no_list}
use Rattle.ask_names.specs.Lists.{swap, Led}
use Rattle.ask_names.proofs.Leads.{swap_first, swap_twice, swapped_back, led_numbers}
use Rattle.ask_answer.specs.Steps.{held_list, Fitting, ListsAnswered}

-- where the lists 0 and c, the number told, change places again, each stands where it stood
pub led_back : {s t : Names} (led : Led s t) {c : ℕ} {lists : List TermList} → c ≡ led.b → SwappedAt t.list lists 0 c
    → length lists ≡ length s.list
    → lists ≡ s.list
led_back {s} {t} led {lists = lists} is w long = swapped_back no_list s.list t.list lists led.b led.lists (rw is at w) long

module _ (bytes : List ℕ) {s t : Names} (led : Led s t) where
  -- the list with a new number is the one with the old number
  list_led : (k : ℕ) → held_list bytes t.list k ≡ held_list bytes s.list (swap led.b k)
  list_led k = rw (led.lists k)

  pub first_led : held_list bytes t.list 0 ≡ held_list bytes s.list led.b
  first_led = list_led 0 ∙ ap (held_list bytes s.list) (sym (swap_first led.b 0 refl))

  pub fitting_led : {own : ℕ → List ℕ → List ℕ} {ns : List (List ℕ)} → Fitting bytes s own ns → Fitting bytes t own ns
  fitting_led f = record {
    numbered = led_numbers led f.numbered;
    named = rw led.taken f.named;
    positions = λ d i h.
        let g = rw led.taken at h in
        f.positions d i g
        ∙ ap (λ k. positions_of (held_list bytes s.list k) d) (sym (swap_twice led.b (get_or s.slot i 0)))
        ∙ ap (λ ps. positions_of ps d) (sym (list_led (swap led.b (get_or s.slot i 0))))
        ∙ ap (λ k. positions_of (held_list bytes t.list k) d) (sym (led.names.each i g));
  }

  pub answered_led : {a : Rule} {ids : List ℕ} {r : (Answer ℕ)} {ids' : List ℕ} → ListsAnswered 0 bytes a t ids r ids'
      → ListsAnswered led.b bytes a s ids r ids'
  answered_led w = record {
    replies = λ own ns f. rw first_led at (w.replies own ns (fitting_led f));
  }
