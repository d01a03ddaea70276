-- The changes between two sets bring the other set.
use Rattle.std.proofs.Common.{◌≡◌, ℕ, Bool, true, false, cond, not, ◌&&◌, ◌||◌, List, [], ◌∷◌, ◌++◌, Option, None, Some, map, filter, eq-eqb, refl, sym, ap, ◌∙◌, subst, append_assoc}
use Rattle.std.proofs.lemmas.List.{append-nil}
use Rattle.ixp_num.specs.declared.roa.Roa.{Roa}
use Rattle.ixp_num_tables.specs.Tables.{Ascends}
use Rattle.ixp_num_sorted.specs.Keys.{roa_key}
use Rattle.ixp_rtr.specs.declared.pdu.Pdu.{Pdu}
use Rattle.ixp_rtr.specs.Changes.{is_among, others, withdrawal, announcement, changes}
use Rattle.ixp_rtr.specs.Clients.{client, SameSet, Has, HasOld, BringsPresent}
use Rattle.ixp_rtr.specs.Answers.{all_of, since, other_session, answer}
use Rattle.ixp_rtr.specs.Caches.{set_of}
use Rattle.ixp_rtr.specs.declared.cache.RtrCache.{RtrCache}
use Rattle.ixp_rtr.specs.declared.pdu.Pdu.TheVariants.{EndOfData}
use Rattle.ixp_rtr.specs.declared.query.Query.TheVariants.{Reset, Serial, End}
use Rattle.ixp_rtr.proofs.Routers.{Leads, withdrawn, announced}

-- what was there and stays, and what is new
both : (a b : Bool) → ((a && not (a && not b)) || (b && not a)) ≡ b
both true true = refl
both true false = refl
both false true = refl
both false false = refl

gone : (s a b : Bool) → s ≡ a → a ≡ false → (s && not (a && not b)) ≡ false
gone s a b p q = ap (λ x. x && not (a && not b)) (p ∙ q)

pub leads : (set from to : List Roa) → Ascends roa_key from → Ascends roa_key to → SameSet set from → Leads set (changes from to) (is_among to)
leads set from to up up_ same =
    let first = withdrawn from to set up (λ r h. same r ∙ h) in
    let second = announced to from first.now up_ (λ r h n. first.has r ∙ gone (is_among set r) (is_among from r) (is_among to r) (same r) n) in
    record {
      now = second.now;
      is = λ more. ap (client set) (append_assoc (map withdrawal (others from to)) (map announcement (others to from)) more)
          ∙ (first.is (map announcement (others to from) ++ more) ∙ second.is more);
      has = λ r. second.has r
          ∙ (ap (λ b. b || (is_among to r && not (is_among from r))) (first.has r ∙ ap (λ s. s && not (is_among from r && not (is_among to r))) (same r))
          ∙ both (is_among from r) (is_among to r));
    }

-- PDUs that change nothing may follow
pub leads_has : (set to : List Roa) (pdus more : List Pdu) → Leads set pdus (is_among to) → ((now : List Roa) → client now more ≡ Some now) → Has (client set (pdus ++ more)) to
leads_has set to pdus more leads still = subst (λ c. Has c to) (sym (leads.is more ∙ still leads.now)) leads.has

pub brings : (set from to : List Roa) → Ascends roa_key from → Ascends roa_key to → SameSet set from → Has (client set (changes from to)) to
brings set from to up up_ same =
    subst (λ ms. Has (client set ms) to) (append-nil (changes from to)) (leads_has set to (changes from to) [] (leads set from to up up_ same) (λ now. refl))

-- ---- answers

-- announcements of a whole set
all_pass : (set : List Roa) → filter (λ r. true) set ≡ set
all_pass [] = refl
all_pass (r ∷ rs) = ap (λ (x : List Roa). r ∷ x) (all_pass rs)

and_true : (b : Bool) → (b && true) ≡ b
and_true true = refl
and_true false = refl

pub all_has : (session serial : ℕ) (to : List Roa) → Ascends roa_key to → Has (client [] (all_of session serial to)) to
all_has session serial to up =
    let leads = announced to [] [] up (λ r h n. refl) in
    let leads_all : Leads [] (map announcement to) (is_among to)
    = subst (λ ms. Leads [] ms (is_among to)) (ap (map announcement) (all_pass to)) (record { now = leads.now; is = leads.is; has = λ r. leads.has r ∙ and_true (is_among to r) }) in
    leads_has [] to (map announcement to) (EndOfData session serial ∷ []) leads_all (λ now. refl)

pub reset_brings : (cache : RtrCache) → Ascends roa_key cache.present → BringsPresent cache Reset
reset_brings cache up set is = subst (λ s. Has (client s (answer cache Reset)) cache.present) (sym is) (all_has cache.session cache.serial cache.present up)

pub serial_brings : (cache : RtrCache) (session serial : ℕ) → Ascends roa_key cache.present → ((old : List Roa) → set_of cache serial ≡ Some old → Ascends roa_key old) → BringsPresent cache (Serial session serial)
serial_brings cache session serial up up_old set (is, has) = by (set_of cache serial) refl has where
  by : (o : Option (List Roa)) → set_of cache serial ≡ o → HasOld o set → Has (client set (answer cache (Serial session serial))) cache.present
  by None e none = absurd none
  by (Some old) e same =
      let answer_is : answer cache (Serial session serial) ≡ since cache (Some old)
      = ap (λ b. cond b (since cache (set_of cache serial)) (other_session session)) (eq-eqb session cache.session is) ∙ ap (since cache) e in
      subst (λ ms. Has (client set ms) cache.present) (sym answer_is)
      (leads_has set cache.present (changes old cache.present) (EndOfData cache.session cache.serial ∷ []) (leads set old cache.present (up_old old e) up same) (λ now. refl))

pub end_brings : (cache : RtrCache) → BringsPresent cache End
end_brings cache set none = absurd none
