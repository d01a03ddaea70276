-- The printed texts of a valid registry spell the generated trees, which do what the rules say.
use Rattle.std.proofs.Common.{◌≡◌, ℕ, List, Some}
use Rattle.ixp_lang.specs.Trees.{ItemTree}
use Rattle.ixp_num_tables.specs.Tables.{find}
use Rattle.ixp_read.specs.Answers.{SpellsText}
use Rattle.ixp_registry.specs.declared.registry.Registry.{Registry}
use Rattle.ixp_registry.specs.declared.router.Router.{Router}
use Rattle.ixp_registry.specs.Keys.{router_key}
use Rattle.ixp_registry.specs.Sessions.{Session, session}
use Rattle.ixp_registry.specs.Valid.{Valid}
use Rattle.ixp_policy.specs.Tags.{tagged}
use Rattle.ixp_compile.specs.Generated.{generated, own_part}
use Rattle.ixp_compile.specs.Rewriting.{rewritten}
use Rattle.ixp_compile.proofs.Rights.{right, own_right, own_up, own_sends, own_counts}
use Rattle.ixp_lang_laws.proofs.WrittenTokens.{alone_law, sound_printed}
use Rattle.ixp_compile_laws.specs.Right.{Gen, Part, Right, RightOwn}
use Rattle.ixp_compile_laws.proofs.SoundTexts.{whole_sound, own_sound}
use Rattle.ixp_compile_laws.proofs.WrittenTexts.{whole_written, own_written}

module _ (r : Registry) (handle : List ℕ) (router : Router) (valid : Valid r) (there : find router_key handle r.routers ≡ Some router) where
  pub whole_spelt : SpellsText (Gen r router) (generated r router)
  whole_spelt = sound_printed (generated r router) (whole_sound r handle router valid there) (whole_written r valid handle router there)

  pub own_spelt : (n : ℕ) (s : Session) → session r router n ≡ Some s → SpellsText (Part r router s) (own_part r router s)
  own_spelt n s its = sound_printed (own_part r router s) (own_sound r handle router valid there n s its) (own_written r valid handle router there n s its)

  pub alone : (other : List ItemTree) → SpellsText (Gen r router) other → other ≡ generated r router
  alone other spelt = alone_law (generated r router) other (Gen r router) whole_spelt spelt

  pub whole_right : Right (Gen r router) r router
  whole_right = record {
    configuration = generated r router;
    is_spelt = whole_spelt;
    is_fate = λ n s route its family. right r valid handle router there n s its route family;
  }

  pub part_right : (n : ℕ) (s : Session) → session r router n ≡ Some s → RightOwn (Part r router s) r router n s
  part_right n s its = record {
    configuration = own_part r router s;
    is_spelt = own_spelt n s its;
    is_fate = λ route family. own_right r valid handle router there n s its route family;
    up = λ route family pass. (
      rewritten router.asn.0 s.rules (tagged r router s route),
      (λ env. own_up r valid handle router there n s its env route family pass),
      (λ env to. (
        own_sends r valid handle router there n s its env (tagged r router s route) to,
        (λ times asked. own_counts r valid handle router there n s its env (tagged r router s route) to times asked),
      )),
    );
  }
