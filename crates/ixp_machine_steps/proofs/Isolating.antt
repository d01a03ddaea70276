-- A member's requests depend on what it sees alone, and change nothing that another member sees.
use Rattle.std.proofs.Common.{◌≡◌, ℕ, ◌+◌, ◌⊎◌, inl, inr, Bool, true, false, not, ◌==◌, nat_lt, List, [], ◌∷◌, length, filter, Option, Some, None, option_map, cond, refl, sym, ap, ◌∙◌, subst, arith, if◌then◌else◌}
use Rattle.std.specs.declared.cmp.Ordering.TheVariants.{Equal}
use Rattle.std.specs.List.{position}
use Rattle.std.proofs.lemmas.Bool.{eqb-true, eqb-false}
use Rattle.ixp_num_tables.specs.Tables.{order, find, put, if_there, same}
use Rattle.ixp_num_tables.specs.Sums.{count}
use Rattle.ixp_num_tables.proofs.Orders.{head_same, tail_same, order_same}
use Rattle.ixp_num_tables.proofs.TableLaws.{find-put-other, find-without-other, find-key}
use Rattle.ixp_num_tables.proofs.Views.{find-filter, filter-put-other, filter-without-other}
use Rattle.ixp_registry.specs.declared.kind.Kind.TheVariants.{Members, Contacts, Rules}
use Rattle.ixp_registry.specs.declared.members.Contact.{Contact}
use Rattle.ixp_registry.specs.declared.members.Member.{Member}
use Rattle.ixp_registry.specs.declared.members.Owner.{Owner}
use Rattle.ixp_registry.specs.declared.members.Owner.TheVariants.{Member as Of}
use Rattle.ixp_registry.specs.declared.refusal.Refusal.{Refusal}
use Rattle.ixp_registry.specs.declared.refusal.Refusal.TheVariants.{Denied, KeyOld, BadText, BadRule}
use Rattle.ixp_registry.specs.declared.refusal.RowKey.TheVariants.{Number, Pair}
use Rattle.ixp_registry.specs.declared.refusal.TextField.TheVariants.{Name, Macro, Mail, Role}
use Rattle.ixp_registry.specs.declared.registry.Registry.{Registry}
use Rattle.ixp_registry.specs.declared.rules.RuleList.{RuleList}
use Rattle.ixp_registry.specs.Alphabets.{is_label, is_note, is_macro}
use Rattle.ixp_registry.specs.Keys.{member_key, contact_key, rules_key}
use Rattle.ixp_registry.specs.Words.{owner_numbers}
use Rattle.ixp_members.specs.Owners.{owner_of}
use Rattle.ixp_machine_edits.specs.declared.edit.Edit.{Edit}
use Rattle.ixp_machine_edits.specs.declared.edit.Edit.TheVariants.{SetMacro, PutContact, DropContact, SetRules}
use Rattle.ixp_machine_edits.specs.declared.edit.NewRule.{NewRule}
use Rattle.ixp_machine_edits.specs.Edits.{next, refusal}
use Rattle.ixp_machine_edits.specs.Lists.{placed, is_bad, with_rules}
use Rattle.ixp_machine_edits.specs.Members.{new_contact, contacts_of}
use Rattle.ixp_machine_edits.specs.Tests.{first_refused, refused, unless_there, full, beyond, changed}
use Rattle.ixp_machine_steps.specs.declared.kept.KeptOwner.{KeptOwner}
use Rattle.ixp_machine_steps.specs.declared.state.Entry.{Entry}
use Rattle.ixp_machine_steps.specs.declared.state.State.{State}
use Rattle.ixp_machine_steps.specs.Kept.{kept_key, kept_of}
use Rattle.ixp_machine_steps.specs.Rights.{right_of, has_right}
use Rattle.ixp_machine_steps.specs.Steps.{Verdict, Refused, first_said, kept_says, verdict_of, kept_entry, after, step}
use Rattle.ixp_machine_steps.specs.Views.{View, view}
use Rattle.ixp_machine_steps.proofs.KeptOwners.{kept_other}
use Rattle.ixp_machine_steps.proofs.Accepting.{accepted_parts, Acts, Rests, either}

-- by what is kept and what the tests of the edit say
abbrev said : Owner → ℕ → Edit → KeptOwner → Option Refusal → Verdict
said owner n e kept o = first_said (
    (if has_right owner (right_of e) then None else Some (Refused (Denied (right_of e))))
    ∷ option_map (kept_says e) (find kept_key (n ∷ []) kept.numbers)
    ∷ (if nat_lt n kept.floor then Some (Refused (KeyOld kept.floor)) else None)
    ∷ option_map Refused o ∷ [])

denied : (owner : Owner) (n : ℕ) (e : Edit) (kept : KeptOwner) (o : Option Refusal) → has_right owner (right_of e) ≡ false → said owner n e kept o ≡ Refused (Denied (right_of e))
denied owner n e kept o h =
    ap (λ b. first_said (
    (if b then None else Some (Refused (Denied (right_of e))))
    ∷ option_map (kept_says e) (find kept_key (n ∷ []) kept.numbers)
    ∷ (if nat_lt n kept.floor then Some (Refused (KeyOld kept.floor)) else None)
    ∷ option_map Refused o ∷ [])) h

count_filter : {R : Type 0} (p : R → Bool) (rs : List R) → count p rs ≡ length (filter p rs)
count_filter p [] = refl
count_filter p (r ∷ rs) = by_test (p r) (count_filter p rs) where
  by_test : (b : Bool) → count p rs ≡ length (filter p rs) → (if b then 1 else 0) + count p rs ≡ length (cond b (r ∷ filter p rs) (filter p rs))
  by_test true e = omega (arith, e)
  by_test false e = omega (arith, e)

eq_itself : (n : ℕ) → (n == n) ≡ true
eq_itself n = by_test (n == n) refl where
  by_test : (b : Bool) → (n == n) ≡ b → b ≡ true
  by_test true h = refl
  by_test false h = absurd (eqb-false n n h refl)

eq_true : (m n : ℕ) → m ≡ n → (m == n) ≡ true
eq_true m n e = subst (λ (x : ℕ). (m == x) ≡ true) e (eq_itself m)

abbrev contacts_seen : ℕ → List Contact → List Contact
contacts_seen m cs = filter (λ c. c.member == m) cs

contact_seen : (m place : ℕ) (cs ds : List Contact) → contacts_seen m cs ≡ contacts_seen m ds → find contact_key (m ∷ place ∷ []) cs ≡ find contact_key (m ∷ place ∷ []) ds
contact_seen m place cs ds e =
    sym (find-filter contact_key (λ c. c.member == m) (m ∷ place ∷ []) cs own) ∙ (ap (find contact_key (m ∷ place ∷ [])) e ∙ find-filter contact_key (λ c. c.member == m) (m ∷ place ∷ []) ds own)
  where
    own : (c : Contact) → order (contact_key c) (m ∷ place ∷ []) ≡ Equal → (c.member == m) ≡ true
    own c h = eq_true c.member m (head_same c.member m (c.place ∷ []) (place ∷ []) h)

count_seen : (m : ℕ) (cs ds : List Contact) → contacts_seen m cs ≡ contacts_seen m ds → contacts_of m cs ≡ contacts_of m ds
count_seen m cs ds e = count_filter (λ c. c.member == m) cs ∙ (ap length e ∙ sym (count_filter (λ c. c.member == m) ds))

-- what the tests of a member's own edits say follows from what it sees
own_refusal : (r t : Registry) (m : ℕ) (e : Edit) → find member_key (m ∷ []) r.members ≡ find member_key (m ∷ []) t.members → contacts_seen m r.contacts ≡ contacts_seen m t.contacts → has_right (Of m) (right_of e) ≡ true → refusal r e ≡ refusal t e
own_refusal r t m (SetMacro member as_macro) who contacts h =
    let is : m ≡ member = eqb-true m member h in
    let here = subst (λ (x : ℕ). find member_key (x ∷ []) r.members ≡ find member_key (x ∷ []) t.members) is who in
    ap (λ o. first_refused (unless_there o Members (Number member) ∷ refused (not (is_macro as_macro)) (BadText Macro) ∷ [])) here
own_refusal r t m (PutContact member place name mail role) who contacts h =
    let is : m ≡ member = eqb-true m member h in
    let here = subst (λ (x : ℕ). find member_key (x ∷ []) r.members ≡ find member_key (x ∷ []) t.members) is who in
    let own = subst (λ (x : ℕ). contacts_seen x r.contacts ≡ contacts_seen x t.contacts) is contacts in
    let tests = λ (o : Option Member) (c : Option Contact) (n : ℕ). first_refused (
    unless_there o Members (Number member)
    ∷ refused (not (is_label name)) (BadText Name)
    ∷ refused (not (is_note mail)) (BadText Mail)
    ∷ refused (not (is_note role)) (BadText Role)
    ∷ refused (place == 0) (BadRule 0)
    ∷ if_there c (full Contacts n 16) (λ c. None) ∷ []) in
    ap (λ o. tests o (find contact_key (member ∷ place ∷ []) r.contacts) (contacts_of member r.contacts)) here
    ∙ (ap (λ c. tests (find member_key (member ∷ []) t.members) c (contacts_of member r.contacts)) (contact_seen member place r.contacts t.contacts own)
    ∙ ap (tests (find member_key (member ∷ []) t.members) (find contact_key (member ∷ place ∷ []) t.contacts)) (count_seen member r.contacts t.contacts own))
own_refusal r t m (DropContact member place) who contacts h =
    let is : m ≡ member = eqb-true m member h in
    let here = subst (λ (x : ℕ). find member_key (x ∷ []) r.members ≡ find member_key (x ∷ []) t.members) is who in
    let own = subst (λ (x : ℕ). contacts_seen x r.contacts ≡ contacts_seen x t.contacts) is contacts in
    ap (λ o. first_refused (unless_there o Members (Number member) ∷ unless_there (find contact_key (member ∷ place ∷ []) r.contacts) Contacts (Pair member place) ∷ [])) here
    ∙ ap (λ c. first_refused (unless_there (find member_key (member ∷ []) t.members) Members (Number member) ∷ unless_there c Contacts (Pair member place) ∷ [])) (contact_seen member place r.contacts t.contacts own)
own_refusal r t m (SetRules member xs) who contacts h =
    let is : m ≡ member = eqb-true m member h in
    let here = subst (λ (x : ℕ). find member_key (x ∷ []) r.members ≡ find member_key (x ∷ []) t.members) is who in
    ap (λ o. first_refused (unless_there o Members (Number member) ∷ option_map (λ i. BadRule (i + 1)) (position is_bad xs) ∷ beyond Rules (length xs) 64 ∷ [])) here
own_refusal r t m e who contacts h = absurd (let bad : ⊥ = cc in bad)

pub apart : (s t : State) (m n : ℕ) (e : Edit) → view s m ≡ view t m → verdict_of s (Of m) n e ≡ verdict_of t (Of m) n e
apart s t m n e same_view = by_right (has_right (Of m) (right_of e)) refl where
  kept : kept_of s.kept (Of m) ≡ kept_of t.kept (Of m)
  kept = ap (λ v. v.own.kept) same_view

  by_right : (b : Bool) → has_right (Of m) (right_of e) ≡ b → verdict_of s (Of m) n e ≡ verdict_of t (Of m) n e
  by_right false h = denied (Of m) n e (kept_of s.kept (Of m)) (refusal s.registry e) h ∙ sym (denied (Of m) n e (kept_of t.kept (Of m)) (refusal t.registry e) h)
  by_right true h =
      ap (λ k. said (Of m) n e k (refusal s.registry e)) kept
      ∙ ap (said (Of m) n e (kept_of t.kept (Of m))) (own_refusal s.registry t.registry m e (ap (λ v. v.own.member) same_view) (ap (λ v. v.own.contacts) same_view) h)

-- what a member sees of a registry, by the three parts that members change
abbrev seen : Registry → KeptOwner → ℕ → Option Member → List Contact → Option RuleList → View
seen r kept m member contacts rules = record {
  own = record {
    member = member;
    contacts = contacts;
    keys = filter (λ k. same (owner_numbers k.owner) (owner_numbers (Of m))) r.keys;
    ports = filter (λ p. p.member == m) r.ports;
    interfaces = filter (λ i. i.member == m) r.interfaces;
    irr = filter (λ l. l.member == m) r.irr;
    origins = filter (λ l. l.member == m) r.origins;
    rules = rules;
    kept = kept;
  };
  routers = r.routers;
  site = r.site;
  public = r.public;
}

abbrev sight : Registry → KeptOwner → ℕ → View
sight r kept m = seen r kept m (find member_key (m ∷ []) r.members) (contacts_seen m r.contacts) (find rules_key (m ∷ []) r.rules)

other_key : (m n : ℕ) → (n == m) ≡ false → order (m ∷ []) (n ∷ []) ≡ Equal → ⊥
other_key m n far e = eqb-false n m far (sym (head_same m n [] [] e))

-- another member is changed
other_member : (m n : ℕ) (f : Member → Member) (ms : List Member) → ((x : Member) → (f x).number ≡ x.number) → (n == m) ≡ false → find member_key (n ∷ []) (changed member_key (m ∷ []) f ms) ≡ find member_key (n ∷ []) ms
other_member m n f ms keeps far = by_row (find member_key (m ∷ []) ms) refl where
  by_row : (o : Option Member) → find member_key (m ∷ []) ms ≡ o → find member_key (n ∷ []) (if_there o ms (λ x. put member_key (f x) ms)) ≡ find member_key (n ∷ []) ms
  by_row None e = refl
  by_row (Some x) e = find-put-other member_key (n ∷ []) (f x) ms (λ h.
      let number : (f x).number ≡ m = keeps x ∙ head_same x.number m [] [] (find-key member_key (m ∷ []) x ms e) in
      other_key m n far (subst (λ (k : ℕ). order (k ∷ []) (n ∷ []) ≡ Equal) number h))

other_contacts : (m n place : ℕ) → (n == m) ≡ false → (c : Contact) → order (contact_key c) (m ∷ place ∷ []) ≡ Equal → (c.member == n) ≡ false
other_contacts m n place far c e = by_test (c.member == n) refl where
  by_test : (b : Bool) → (c.member == n) ≡ b → b ≡ false
  by_test false h = refl
  by_test true h = absurd (eqb-false n m far (sym (eqb-true c.member n h) ∙ head_same c.member m (c.place ∷ []) (place ∷ []) e))

other_rules : (m n : ℕ) (xs : List NewRule) (ls : List RuleList) → (n == m) ≡ false → find rules_key (n ∷ []) (with_rules m xs ls) ≡ find rules_key (n ∷ []) ls
other_rules m n [] ls far = find-without-other rules_key (n ∷ []) (m ∷ []) ls (λ e. other_key n m (turned far) e) where
  turned : (n == m) ≡ false → (m == n) ≡ false
  turned h = by_test (m == n) refl where
    by_test : (b : Bool) → (m == n) ≡ b → b ≡ false
    by_test false g = refl
    by_test true g = absurd (eqb-false n m h (sym (eqb-true m n g)))
other_rules m n (x ∷ xs) ls far = find-put-other rules_key (n ∷ []) (record { member = m; rules = placed m 1 (x ∷ xs) }) ls (other_key m n far)

-- a member's own edit, seen by another member
unseen : (r : Registry) (e : Edit) (kept : KeptOwner) (m n : ℕ) → has_right (Of m) (right_of e) ≡ true → (n == m) ≡ false → sight (next r e) kept n ≡ sight r kept n
unseen r (SetMacro member as_macro) kept m n h far =
    let far' = subst (λ (x : ℕ). (n == x) ≡ false) (eqb-true m member h) far in
    ap (λ o. seen r kept n o (contacts_seen n r.contacts) (find rules_key (n ∷ []) r.rules)) (other_member member n (λ x. record x { as_macro = as_macro }) r.members (λ x. refl) far')
unseen r (PutContact member place name mail role) kept m n h far =
    let far' = subst (λ (x : ℕ). (n == x) ≡ false) (eqb-true m member h) far in
    let c : Contact = new_contact member place name mail role in
    ap (λ cs. seen r kept n (find member_key (n ∷ []) r.members) cs (find rules_key (n ∷ []) r.rules))
    (filter-put-other contact_key (λ c. c.member == n) c r.contacts (other_contacts member n place far' c (order_same (contact_key c))) (λ d e. other_contacts member n place far' d e))
unseen r (DropContact member place) kept m n h far =
    let far' = subst (λ (x : ℕ). (n == x) ≡ false) (eqb-true m member h) far in
    ap (λ cs. seen r kept n (find member_key (n ∷ []) r.members) cs (find rules_key (n ∷ []) r.rules))
    (filter-without-other contact_key (λ c. c.member == n) (member ∷ place ∷ []) r.contacts (λ d e. other_contacts member n place far' d e))
unseen r (SetRules member xs) kept m n h far =
    let far' = subst (λ (x : ℕ). (n == x) ≡ false) (eqb-true m member h) far in
    ap (seen r kept n (find member_key (n ∷ []) r.members) (contacts_seen n r.contacts)) (other_rules member n xs r.rules far')
unseen r e kept m n h far = absurd (let bad : ⊥ = cc in bad)

pub own_alone : (s : State) (e : Entry) (m n : ℕ) → owner_of s.registry e.secret ≡ Some (Of m) → (n == m) ≡ false → view (step s e) n ≡ view s n
own_alone s e m n found far = by_case (either s e) where
  by_case : Acts s e ⊎ Rests s e → view (step s e) n ≡ view s n
  by_case (inr r) = ap (λ t. view t n) r.0
  by_case (inl a) =
      let owner : a.0 ≡ Of m = cc in
      let k = kept_entry e (s.accepted + 1) in
      let right : has_right (Of m) (right_of e.edit) ≡ true = subst (λ (o : Owner). has_right o (right_of e.edit) ≡ true) owner (accepted_parts s.registry (kept_of s.kept a.0) a.0 e.number e.edit a.2).right in
      let others : kept_of (after s a.0 e).kept (Of n) ≡ kept_of s.kept (Of n) =
      subst (λ (o : Owner). kept_of (after s o e).kept (Of n) ≡ kept_of s.kept (Of n)) (sym owner)
      (kept_other k s.kept (Of m) (Of n) (λ h. other_key m n far (tail_same 1 1 (m ∷ []) (n ∷ []) h))) in
      ap (λ t. view t n) a.3
      ∙ (ap (λ k. sight (next s.registry e.edit) k n) others
      ∙ unseen s.registry e.edit (kept_of s.kept (Of n)) m n right far)
