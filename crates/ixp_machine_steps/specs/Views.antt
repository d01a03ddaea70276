-- What a member sees: what is its own, and what is public.
use Rattle.std.specs.Prelude.{ℕ, List, [], ◌∷◌, ◌==◌, Option, filter}
use Rattle.ixp_num_tables.specs.Tables.{find, same}
use Rattle.ixp_registry.specs.declared.lists.IrrList.{IrrList}
use Rattle.ixp_registry.specs.declared.lists.OriginList.{OriginList}
use Rattle.ixp_registry.specs.declared.lists.PublicLists.{PublicLists}
use Rattle.ixp_registry.specs.declared.members.ApiKey.{ApiKey}
use Rattle.ixp_registry.specs.declared.members.Contact.{Contact}
use Rattle.ixp_registry.specs.declared.members.Member.{Member}
use Rattle.ixp_registry.specs.declared.members.Owner.TheVariants.{Member as Of}
use Rattle.ixp_registry.specs.declared.network.Interface.{Interface}
use Rattle.ixp_registry.specs.declared.network.Port.{Port}
use Rattle.ixp_registry.specs.declared.router.Router.{Router}
use Rattle.ixp_registry.specs.declared.rules.RuleList.{RuleList}
use Rattle.ixp_registry.specs.declared.site.Site.{Site}
use Rattle.ixp_registry.specs.Keys.{member_key, rules_key}
use Rattle.ixp_registry.specs.Words.{owner_numbers}
use Rattle.ixp_machine_steps.specs.declared.kept.KeptOwner.{KeptOwner}
use Rattle.ixp_machine_steps.specs.declared.state.State.{State}
use Rattle.ixp_machine_steps.specs.Kept.{kept_of}

-- the records of a member
pub record Own : Type 0 where
  pub member : Option Member
  pub contacts : List Contact
  pub keys : List ApiKey
  pub ports : List Port
  pub interfaces : List Interface
  pub irr : List IrrList
  pub origins : List OriginList
  pub rules : Option RuleList
  pub kept : KeptOwner

abbrev pub own : State → ℕ → Own
own s m = record {
  member = find member_key (m ∷ []) s.registry.members;
  contacts = filter (λ c. c.member == m) s.registry.contacts;
  keys = filter (λ k. same (owner_numbers k.owner) (owner_numbers (Of m))) s.registry.keys;
  ports = filter (λ p. p.member == m) s.registry.ports;
  interfaces = filter (λ i. i.member == m) s.registry.interfaces;
  irr = filter (λ l. l.member == m) s.registry.irr;
  origins = filter (λ l. l.member == m) s.registry.origins;
  rules = find rules_key (m ∷ []) s.registry.rules;
  kept = kept_of s.kept (Of m);
}

-- what a member sees beside it
pub record View : Type 0 where
  pub own : Own
  pub routers : List Router
  pub site : Site
  pub public : PublicLists

abbrev pub view : State → ℕ → View
view s m =
    record { own = own s m; routers = s.registry.routers; site = s.registry.site; public = s.registry.public }
