-- A bundle that is a registry's has the texts of full generation.
use Rattle.std.proofs.Common.{◌≡◌, ℕ, List, Option, Some, None, Ok, Err, Vec, refl, sym, ap, ◌∙◌}
use Rattle.std.specs.Option.{option_map}
use Rattle.std.specs.declared.alloc.Global.{Global}
use Rattle.ixp_num_tables.specs.Tables.{if_there}
use Rattle.ixp_print.specs.Texts.{config_text}
use Rattle.ixp_registry.specs.declared.registry.Registry.{Registry}
use Rattle.ixp_registry.specs.declared.router.Router.{Router}
use Rattle.ixp_registry.specs.Valid.{Valid}
use Rattle.ixp_compile.specs.Generated.{generated}
use Rattle.ixp_compile_text.specs.declared.fault.GenFault.TheVariants.{NoRouter}
use Rattle.ixp_compile_text.specs.Answers.{Prints, generated_at, router_at}
use Rattle.ixp_build.specs.declared.bundle.Bundle.{Bundle}
use Rattle.ixp_build.specs.Bundles.{IsOf, text_of}
use Rattle.ixp_build.proofs.AfterEdits.{full}

text_at : (r : Registry) (o : Option Router) (text : Vec ℕ Global) → Prints (if_there o (Err NoRouter) (λ q. Ok (generated r q))) (Ok text) → option_map (λ q. config_text (generated r q)) o ≡ Some text.items
text_at r None text prints = absurd (let bad : ⊥ = cc in bad)
text_at r (Some q) text prints = ap (λ (t : List ℕ). Some t) (sym prints)

pub same_text : (b : Bundle) (r : Registry) (h : List ℕ) (text : Vec ℕ Global) → Valid r → IsOf b r → Prints (generated_at r h) (Ok text) → text_of b h ≡ Some text.items
same_text b r h text valid whole prints = full b r h valid whole ∙ text_at r (router_at r h) text prints

none_at : (r : Registry) (o : Option Router) → Prints (if_there o (Err NoRouter) (λ q. Ok (generated r q))) (Err NoRouter) → option_map (λ q. config_text (generated r q)) o ≡ None
none_at r None prints = refl
none_at r (Some q) prints = absurd (let bad : ⊥ = cc in bad)

pub no_text : (b : Bundle) (r : Registry) (h : List ℕ) → Valid r → IsOf b r → Prints (generated_at r h) (Err NoRouter) → text_of b h ≡ None
no_text b r h valid whole prints = full b r h valid whole ∙ none_at r (router_at r h) prints
