-- Requests of the same parts are the same.
use Rattle.std.proofs.Common.{◌≡◌, ℕ, suc, ◌+◌, ◌<◌, ◌%◌, ◌^◌, Bool, true, List, [], ◌∷◌, IsTrue, codes, ap, ◌∙◌, subst, arith}
use Rattle.std.proofs.Math.Bool.{Bool-set}
use Rattle.std.proofs.Math.Bridge.{le_prop}
use Rattle.ixp_machine_edits.specs.declared.edit.Edit.{Edit}
use Rattle.ixp_machine_edits.specs.declared.edit.Edit.TheVariants.{SetRules}
use Rattle.ixp_machine_steps.specs.declared.state.Entry.{Entry}
use Rattle.ixp_machine_edits.specs.Lists.{has_few_rules}
use Rattle.ixp_machine_steps.specs.Requests.{has_family}
use Rattle.ixp_build_demo.specs.Builds.{demo_request, demo_rule}

true_one : (b : Bool) (x y : IsTrue b) → x ≡ y
true_one b x y = Bool-set b true x y

abbrev entry_with : (s : List ℕ) (n : ℕ) (e : Edit) → 0 < n → n < 10 ^ 16 → IsTrue (has_family e) → IsTrue (has_few_rules e) → Entry
entry_with s n e counted small family rules = record { secret = s; number = n; edit = e; counted = counted; small = small; family = family; rules = rules }

entry_at :
    (s : List ℕ) (n : ℕ) (e : Edit) (c c' : 0 < n) (m m' : n < 10 ^ 16) (f f' : IsTrue (has_family e)) (r r' : IsTrue (has_few_rules e))
    → entry_with s n e c m f r ≡ entry_with s n e c' m' f' r'
entry_at s n e c c' m m' f f' r r' =
    ap (λ c. entry_with s n e c m f r) (le_prop c c')
    ∙ (ap (λ m. entry_with s n e c' m f r) (le_prop m m')
    ∙ (ap (λ f. entry_with s n e c' m' f r) (true_one (has_family e) f f')
    ∙ ap (λ r. entry_with s n e c' m' f' r) (true_one (has_few_rules e) r r')))

entry_along :
    (s : List ℕ) (n : ℕ) (e : Edit) (c : 0 < n) (m : n < 10 ^ 16) (f : IsTrue (has_family e)) (r : IsTrue (has_few_rules e)) (t : List ℕ) → s ≡ t → (k : ℕ) → n ≡ k → (d : Edit) → e ≡ d
    → (c' : 0 < k) (m' : k < 10 ^ 16) (f' : IsTrue (has_family d)) (r' : IsTrue (has_few_rules d)) → entry_with s n e c m f r ≡ entry_with t k d c' m' f' r'
entry_along s n e c m f r t q =
    subst
    (λ (t : List ℕ). (k : ℕ) → n ≡ k → (d : Edit) → e ≡ d → (c' : 0 < k) (m' : k < 10 ^ 16) (f' : IsTrue (has_family d)) (r' : IsTrue (has_few_rules d)) → entry_with s n e c m f r ≡ entry_with t k d c' m' f' r')
    q
    (λ k p. subst
    (λ (k : ℕ). (d : Edit) → e ≡ d → (c' : 0 < k) (m' : k < 10 ^ 16) (f' : IsTrue (has_family d)) (r' : IsTrue (has_few_rules d)) → entry_with s n e c m f r ≡ entry_with s k d c' m' f' r')
    p
    (λ d o. subst
    (λ (d : Edit). (c' : 0 < n) (m' : n < 10 ^ 16) (f' : IsTrue (has_family d)) (r' : IsTrue (has_few_rules d)) → entry_with s n e c m f r ≡ entry_with s n d c' m' f' r')
    o
    (λ c' m' f' r'. entry_at s n e c c' m m' f f' r r')))

plus_one : (n : ℕ) → n + 1 ≡ suc n
plus_one n = omega arith

pub one_request : (e : Entry) (k : ℕ) → e.secret ≡ codes "staff00000000001" → e.number ≡ k % 100 + 1 → e.edit ≡ SetRules (k % 100 + 1) (demo_rule ∷ []) → e ≡ demo_request k
one_request e k secret number edit =
    let d = demo_request k in
    entry_along e.secret e.number e.edit e.counted e.small e.family e.rules d.secret secret d.number (number ∙ plus_one (k % 100)) d.edit
    (edit ∙ ap (λ n. SetRules n (demo_rule ∷ [])) (plus_one (k % 100))) d.counted d.small d.family d.rules

pub ruleset is_request = (one_request)
