-- What the functions of a session's own text tell of a peer is the wish.
use Rattle.std.proofs.Common.{◌≡◌, ℕ, ◌≤◌, Bool, true, false, nat_le, List, [], ◌∷◌, map, reverse, Option, Some, None, Ok, Err, refl, sym, ap, ◌∙◌, subst, arith, true≢false, if◌then◌else◌}
use Rattle.std.specs.Option.{is_some}
use Rattle.std.proofs.lemmas.Bool.{and_parts, leb-true, le-leb}
use Rattle.ixp_num.specs.declared.asn.Asn.{Asn}
use Rattle.ixp_num.specs.declared.prefix.Prefix.{Prefix}
use Rattle.ixp_num_tables.specs.Tables.{if_there}
use Rattle.ixp_lang.specs.declared.route.Route.{Route}
use Rattle.ixp_lang.specs.declared.value.Value.TheVariants.{Bool as Truth, Int}
use Rattle.ixp_lang.specs.Attributes.{truth}
use Rattle.ixp_lang.specs.Meaning.{Environment, function_end}
use Rattle.ixp_lang.specs.Steering.{sends, prepends}
use Rattle.ixp_lang.specs.Trees.{ItemTree}
use Rattle.ixp_registry.specs.declared.router.Router.{Router}
use Rattle.ixp_registry.specs.declared.rules.Action.{Action}
use Rattle.ixp_registry.specs.declared.rules.Action.TheVariants.{AsIs, Prepend, Stop}
use Rattle.ixp_registry.specs.declared.rules.MemberRule.{MemberRule}
use Rattle.ixp_registry.specs.declared.rules.Way.{Way}
use Rattle.ixp_registry.specs.declared.rules.Way.TheVariants.{Advertise, Receive}
use Rattle.ixp_registry.specs.Sessions.{Session, asked, is_for}
use Rattle.ixp_registry.specs.Words.{is_action_of}
use Rattle.ixp_policy.specs.Export.{steered, times_of, wish}
use Rattle.ixp_compile.specs.Rewriting.{AreLawful, IsLawful}
use Rattle.ixp_compile.proofs.GoingDown.{prepends_small}
use Rattle.ixp_explain.specs.Explained.{and_then, called, count_name, count_told, sends_name, times_told, wish_told, wishes_told, misshapen}

small : (n k : ℕ) → n ≤ 255 → Some n ≡ Some k → nat_le k 255 ≡ true
small n k low e = let same : n ≡ k = cc in subst (λ (m : ℕ). nat_le m 255 ≡ true) same (le-leb n 255 low)

action_small : (way : Way) (a : Action) (k : ℕ) → is_action_of way a ≡ true → times_of a ≡ Some k → nat_le k 255 ≡ true
action_small way AsIs k lawful e = small 0 k (omega arith) e
action_small Advertise (Prepend n) k lawful e =
    let most : n ≤ 3 = leb-true n 3 (and_parts (nat_le 1 n) (nat_le n 3) lawful).1 in
    small n k (omega arith) e
action_small Receive (Prepend n) k lawful e = absurd (true≢false (sym lawful))
action_small way Stop k lawful e = absurd (let bad : ⊥ = cc in bad)

rule_small : (rule : MemberRule) → IsLawful rule → (others : Option Action) (a : Action) (k : ℕ) → times_of a ≡ Some k → (others ≡ Some a → nat_le k 255 ≡ true)
    → (b : Bool) → (if b then Some rule.action else others) ≡ Some a → nat_le k 255 ≡ true
rule_small rule lawful others a k f rest true e =
    let same : rule.action ≡ a = cc in
    action_small rule.way rule.action k (and_parts (is_action_of rule.way rule.action) _ lawful).0 (ap times_of same ∙ f)
rule_small rule lawful others a k f rest false e = rest e

asked_small : (rules : List MemberRule) → AreLawful rules → (rs : ℕ) (net : Prefix) (p : ℕ) (a : Action) (k : ℕ) → asked rules rs net p ≡ Some a → times_of a ≡ Some k → nat_le k 255 ≡ true
asked_small [] lawful rs net p a k e f = absurd (let bad : ⊥ = cc in bad)
asked_small (rule ∷ rules) lawful rs net p a k e f =
    rule_small rule lawful.0 (asked rules rs net p) a k f (λ g. asked_small rules lawful.1 rs net p a k g f) (is_for rs rule net p) e

steered_small : (rs : ℕ) (t : Route) (to k : ℕ) → steered rs t to ≡ Some k → nat_le k 255 ≡ true
steered_small rs t to k e = go (sends rs t to) e where
  go : (b : Bool) → (if b then Some (prepends rs t to) else None) ≡ Some k → nat_le k 255 ≡ true
  go true f = let most : prepends rs t to ≤ 3 = prepends_small rs t to in small (prepends rs t to) k (omega arith) f
  go false f = absurd (let bad : ⊥ = cc in bad)

pub wish_small : (router : Router) (s : Session) (t : Route) (to k : ℕ) → AreLawful s.rules → wish router s t to ≡ Some k → nat_le k 255 ≡ true
wish_small router s t to k lawful e = go (asked s.rules router.asn.0 t.net to) refl e where
  go : (o : Option Action) → asked s.rules router.asn.0 t.net to ≡ o → if_there o (steered router.asn.0 t to) times_of ≡ Some k → nat_le k 255 ≡ true
  go None there f = steered_small router.asn.0 t to k f
  go (Some a) there f = asked_small s.rules lawful router.asn.0 t.net to a k there f

-- Functions that give the wish for each peer.
pub record GiveWishes (items : List ItemTree) (env : Environment) (sent : Route) (wished : ℕ → Option ℕ) : Type 0 where
  pub sends : (to : ℕ) → function_end env (reverse items) sends_name to sent ≡ Ok (Truth (is_some (wished to)))
  pub counts : (to times : ℕ) → wished to ≡ Some times → function_end env (reverse items) count_name to sent ≡ Ok (Int times)
  pub few : (to times : ℕ) → wished to ≡ Some times → nat_le times 255 ≡ true

module _ (items : List ItemTree) (env : Environment) (sent : Route) (wished : ℕ → Option ℕ) (give : GiveWishes items env sent wished) where
  wish_is : (to : ℕ) → wish_told items env sent to ≡ Ok (wished to)
  wish_is to =
      ap (λ w. and_then (and_then (called w) (λ v. Ok (truth v))) (λ b. if b then count_told items env sent to else Ok None)) (give.sends to)
      ∙ go (wished to) refl
    where
      go : (o : Option ℕ) → wished to ≡ o → (if is_some o then count_told items env sent to else Ok None) ≡ Ok o
      go None e = refl
      go (Some times) e =
          ap (λ w. and_then (called w) times_told) (give.counts to times e)
          ∙ ap (λ (b : Bool). if b then Ok (Some times) else Err (misshapen count_name)) (give.few to times e)

  pub wishes_are : (peers : List Asn) → wishes_told items env sent peers ≡ Ok (map (λ p. (p, wished p.0)) peers)
  wishes_are [] = refl
  wishes_are (p ∷ ps) =
      ap (λ w. and_then w (λ wish. and_then (wishes_told items env sent ps) (λ wishes. Ok ((p, wish) ∷ wishes)))) (wish_is p.0)
      ∙ ap (λ w. and_then w (λ wishes. Ok ((p, wished p.0) ∷ wishes))) (wishes_are ps)
