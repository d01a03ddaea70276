-- A member's questions depend on what it sees alone.
use Rattle.std.proofs.Common.{◌≡◌, ℕ, List, [], ◌∷◌, Bool, true, false, ◌==◌, Option, Some, None, codes, filter, refl, sym, ap, ◌∙◌, subst, if◌then◌else◌}
use Rattle.std.proofs.lemmas.Bool.{eqb-true}
use Rattle.serde_json.specs.Data.{array, item, no_items, object, member, no_members, string}
use Rattle.serde_json.specs.Written.{compact_text}
use Rattle.ixp_num_tables.specs.Tables.{find, if_there}
use Rattle.ixp_registry.specs.declared.kind.Kind.TheVariants.{Members}
use Rattle.ixp_registry.specs.declared.members.Member.{Member}
use Rattle.ixp_registry.specs.declared.members.Owner.{Owner}
use Rattle.ixp_registry.specs.declared.members.Owner.TheVariants.{Member as Of}
use Rattle.ixp_registry.specs.declared.refusal.Refusal.{Refusal}
use Rattle.ixp_registry.specs.declared.refusal.Refusal.TheVariants.{NoKey, Denied}
use Rattle.ixp_registry.specs.declared.refusal.Right.{Right}
use Rattle.ixp_registry.specs.declared.refusal.Right.TheVariants.{Staff, Member as Own}
use Rattle.ixp_registry.specs.declared.refusal.RowKey.TheVariants.{Number}
use Rattle.ixp_registry.specs.declared.registry.Registry.{Registry}
use Rattle.ixp_registry.specs.Keys.{member_key, rules_key}
use Rattle.ixp_ixf.specs.Export.{exchange_tree, members_tree, list_of}
use Rattle.ixp_ixf.specs.Moments.{moment_text}
use Rattle.ixp_ixf.specs.Views.{ixf_text_of}
use Rattle.ixp_members.specs.Owners.{owner_of}
use Rattle.ixp_machine_edits.specs.Tests.{unless_there}
use Rattle.ixp_machine_steps.specs.declared.state.State.{State}
use Rattle.ixp_machine_steps.specs.Rights.{has_right}
use Rattle.ixp_machine_steps.specs.Views.{View, view}
use Rattle.ixp_machine.specs.declared.question.Answer.{Answer}
use Rattle.ixp_machine.specs.declared.question.Answer.TheVariants as answer
use Rattle.ixp_machine.specs.declared.question.Query.{Query}
use Rattle.ixp_machine.specs.declared.question.Query.TheVariants.{Member as OfMember, Contacts, Rules, Use, Ixf, Dump}
use Rattle.ixp_machine.specs.Questions.{right_asked, unless_known, refusal_without, ask_refusal, IsAnswer}

-- what is refused of an owner's question
abbrev refused_of : Registry → Query → Right → Owner → Option Refusal
refused_of r q right owner = if has_right owner right then unless_known r q else Some (Denied right)

by_owner : (r : Registry) (secret : List ℕ) (q : Query) (right : Right) (owner : Owner) → owner_of r secret ≡ Some owner → refusal_without r secret q right ≡ refused_of r q right owner
by_owner r secret q right owner is = ap (λ o. if_there o (Some NoKey) (refused_of r q right)) is

-- the right that is asked is the one
the_right : (a b : Right) → ◌≡◌ {A = Option Right} (Some a) (Some b) → a ≡ b
the_right a b is = cc

at_right : (r : Registry) (q : Query) (m : ℕ) (a b : Right) → ◌≡◌ {A = Option Right} (Some a) (Some b) → refused_of r q b (Of m) ≡ None → refused_of r q a (Of m) ≡ None
at_right r q m a b is none = subst (λ x. refused_of r q x (Of m) ≡ None) (sym (the_right a b is)) none

list_alike : (r t : Registry) → exchange_tree r ≡ exchange_tree t → list_of exchange_tree (r ∷ []) ≡ list_of exchange_tree (t ∷ [])
list_alike r t is = ap (λ d. array (item d no_items)) is

same_text : (r t : Registry) (second : ℕ) → exchange_tree r ≡ exchange_tree t → members_tree r ≡ members_tree t → ixf_text_of r second ≡ ixf_text_of t second
unfolding ixf_text_of
same_text r t second exchange members =
    ap (λ d. compact_text (object (member (codes "ixp_list") d (member (codes "member_list") (members_tree r) (member (codes "timestamp") (string (moment_text second)) (member (codes "version") (string (codes "1.0")) no_members))))))
    (list_alike r t exchange)
    ∙ ap (λ d. compact_text (object (member (codes "ixp_list") (list_of exchange_tree (t ∷ [])) (member (codes "member_list") d (member (codes "timestamp") (string (moment_text second)) (member (codes "version") (string (codes "1.0")) no_members))))))
    members

-- of a member that sees itself alike
same_member : (r t : Registry) (m n : ℕ) (b : Bool) → (m == n) ≡ b → find member_key (m ∷ []) r.members ≡ find member_key (m ∷ []) t.members
    → (if b then unless_there (find member_key (n ∷ []) r.members) Members (Number n) else Some (Denied (Own n)))
    ≡ (if b then unless_there (find member_key (n ∷ []) t.members) Members (Number n) else Some (Denied (Own n)))
same_member r t m n true is who =
    let same : m ≡ n = eqb-true m n is in
    ap (λ o. unless_there o Members (Number n)) (subst (λ (x : ℕ). find member_key (x ∷ []) r.members ≡ find member_key (x ∷ []) t.members) same who)
same_member r t m n false is who = refl

refused_alike : (r t : Registry) (m : ℕ) (q : Query) (right : Right) → right_asked q ≡ Some right → find member_key (m ∷ []) r.members ≡ find member_key (m ∷ []) t.members
    → refused_of r q right (Of m) ≡ refused_of t q right (Of m)
refused_alike r t m (OfMember n) right is who = subst (λ x. refused_of r (OfMember n) x (Of m) ≡ refused_of t (OfMember n) x (Of m)) (the_right (Own n) right is) (same_member r t m n (m == n) refl who)
refused_alike r t m (Contacts n) right is who = subst (λ x. refused_of r (Contacts n) x (Of m) ≡ refused_of t (Contacts n) x (Of m)) (the_right (Own n) right is) (same_member r t m n (m == n) refl who)
refused_alike r t m (Rules n) right is who = subst (λ x. refused_of r (Rules n) x (Of m) ≡ refused_of t (Rules n) x (Of m)) (the_right (Own n) right is) (same_member r t m n (m == n) refl who)
refused_alike r t m (Use vlan f) right is who = subst (λ x. refused_of r (Use vlan f) x (Of m) ≡ refused_of t (Use vlan f) x (Of m)) (the_right Staff right is) refl
refused_alike r t m (Ixf second) right is who = absurd (let bad : ◌≡◌ {A = Option Right} None (Some right) = is in cc)
refused_alike r t m Dump right is who = subst (λ x. refused_of r Dump x (Of m) ≡ refused_of t Dump x (Of m)) (the_right Staff right is) refl

apart_by : (s t : State) (m : ℕ) (a b : List ℕ) (q : Query) (o : Option Right) → right_asked q ≡ o → owner_of s.registry a ≡ Some (Of m) → owner_of t.registry b ≡ Some (Of m) → view s m ≡ view t m
    → if_there o None (refusal_without s.registry a q) ≡ if_there o None (refusal_without t.registry b q)
apart_by s t m a b q None is own other seen = refl
apart_by s t m a b q (Some right) is own other seen =
    by_owner s.registry a q right (Of m) own
    ∙ (refused_alike s.registry t.registry m q right is (ap (λ (v : View). v.own.member) seen) ∙ sym (by_owner t.registry b q right (Of m) other))

pub refusal_apart : (s t : State) (m : ℕ) (a b : List ℕ) (q : Query) → owner_of s.registry a ≡ Some (Of m) → owner_of t.registry b ≡ Some (Of m) → view s m ≡ view t m → ask_refusal s.registry a q ≡ ask_refusal t.registry b q
refusal_apart s t m a b q own other seen = apart_by s t m a b q (right_asked q) refl own other seen

-- where nothing is refused, the question is about the member itself
own_number : (m n : ℕ) (b : Bool) (o : Option Refusal) (x : Refusal) → (m == n) ≡ b → (if b then o else Some x) ≡ None → m ≡ n
own_number m n true o x is none = eqb-true m n is
own_number m n false o x is none = absurd (let bad : ◌≡◌ {A = Option Refusal} (Some x) None = none in cc)

at_own : (P : ℕ → Type 0) (m n : ℕ) → m ≡ n → P m → P n
at_own P m n same p = subst P same p

answer_alike : (s t : State) (m : ℕ) (q : Query) (right : Right) (x : Answer) → right_asked q ≡ Some right → refused_of s.registry q right (Of m) ≡ None → view s m ≡ view t m
    → IsAnswer s.registry q x → IsAnswer t.registry q x
answer_alike s t m (OfMember n) right x is none seen (row, found, same_row) =
    let same : m ≡ n = own_number m n (m == n) (unless_known s.registry (OfMember n)) (Denied (Own n)) refl (at_right s.registry (OfMember n) m (Own n) right is none) in
    let who = at_own (λ k. find member_key (k ∷ []) s.registry.members ≡ find member_key (k ∷ []) t.registry.members) m n same (ap (λ (v : View). v.own.member) seen) in
    (row, sym who ∙ found, same_row)
answer_alike s t m (Contacts n) right x is none seen a =
    let same : m ≡ n = own_number m n (m == n) (unless_known s.registry (Contacts n)) (Denied (Own n)) refl (at_right s.registry (Contacts n) m (Own n) right is none) in
    let who = at_own (λ k. filter (λ c. c.member == k) s.registry.contacts ≡ filter (λ c. c.member == k) t.registry.contacts) m n same (ap (λ (v : View). v.own.contacts) seen) in
    a ∙ ap answer.Contacts who
answer_alike s t m (Rules n) right x is none seen a =
    let same : m ≡ n = own_number m n (m == n) (unless_known s.registry (Rules n)) (Denied (Own n)) refl (at_right s.registry (Rules n) m (Own n) right is none) in
    let who = at_own (λ k. find rules_key (k ∷ []) s.registry.rules ≡ find rules_key (k ∷ []) t.registry.rules) m n same (ap (λ (v : View). v.own.rules) seen) in
    a ∙ ap (λ o. answer.Rules (if_there o [] (λ l. l.rules))) who
answer_alike s t m (Use vlan f) right x is none seen a =
    absurd (let bad : ◌≡◌ {A = Option Refusal} (Some (Denied Staff)) None = at_right s.registry (Use vlan f) m Staff right is none in cc)
answer_alike s t m (Ixf second) right x is none seen a = absurd (let bad : ◌≡◌ {A = Option Right} None (Some right) = is in cc)
answer_alike s t m Dump right x is none seen a =
    absurd (let bad : ◌≡◌ {A = Option Refusal} (Some (Denied Staff)) None = at_right s.registry Dump m Staff right is none in cc)

pub answer_apart : (s t : State) (m : ℕ) (secret : List ℕ) (q : Query) (right : Right) (x : Answer) → owner_of s.registry secret ≡ Some (Of m) → right_asked q ≡ Some right
    → ask_refusal s.registry secret q ≡ None → view s m ≡ view t m → IsAnswer s.registry q x → IsAnswer t.registry q x
answer_apart s t m secret q right x own is none seen a =
    let asked : refusal_without s.registry secret q right ≡ None = sym (ap (λ o. if_there o None (refusal_without s.registry secret q)) is) ∙ none in
    answer_alike s t m q right x is (sym (by_owner s.registry secret q right (Of m) own) ∙ asked) seen a

-- the export depends on what it shows
pub export_apart : (s t : State) (second : ℕ) (x : Answer) → exchange_tree s.registry ≡ exchange_tree t.registry → members_tree s.registry ≡ members_tree t.registry
    → IsAnswer s.registry (Ixf second) x → IsAnswer t.registry (Ixf second) x
export_apart s t second x exchange members is = is ∙ ap answer.Json (same_text s.registry t.registry second exchange members)
