-- What is generated of a valid registry.
use Rattle.std.proofs.Common.{◌≡◌, ℕ, List, Option, Some, None, Ok, Err, Vec, refl}
use Rattle.std.specs.declared.alloc.Global.{Global}
use Rattle.ixp_num_tables.specs.Tables.{find, if_there}
use Rattle.ixp_registry.specs.declared.registry.Registry.{Registry}
use Rattle.ixp_registry.specs.declared.router.Router.{Router}
use Rattle.ixp_registry.specs.Keys.{router_key}
use Rattle.ixp_registry.specs.Valid.{Valid}
use Rattle.ixp_compile.specs.Generated.{generated}
use Rattle.ixp_compile_text.specs.declared.fault.GenFault.TheVariants.{NoRouter}
use Rattle.ixp_compile_text.specs.Answers.{Prints, generated_at}
use Rattle.ixp_compile_text.proofs.Bounds.{high_fits}
use Rattle.ixp_compile_laws.specs.Texts.{IsTextOf}

text_at : (r : Registry) (handle : List ℕ) (o : Option Router) (text : Vec ℕ Global) → find router_key handle r.routers ≡ o
    → Prints (if_there o (Err NoRouter) (λ q. Ok (generated r q))) (Ok text) → IsTextOf r handle (Some text.items)
text_at r handle None text at prints = absurd (let bad : ⊥ = cc in bad)
text_at r handle (Some q) text at prints = (q, at, prints)

pub text_there : (r : Registry) (handle : List ℕ) (text : Vec ℕ Global) → Prints (generated_at r handle) (Ok text) → IsTextOf r handle (Some text.items)
text_there r handle text prints = text_at r handle (find router_key handle r.routers) text refl prints

none_at : (r : Registry) (handle : List ℕ) (o : Option Router) → find router_key handle r.routers ≡ o
    → Prints (if_there o (Err NoRouter) (λ q. Ok (generated r q))) (Err NoRouter) → IsTextOf r handle None
none_at r handle None at prints = at
none_at r handle (Some q) at prints = absurd (let bad : ⊥ = cc in bad)

pub none_there : (r : Registry) (handle : List ℕ) → Prints (generated_at r handle) (Err NoRouter) → IsTextOf r handle None
none_there r handle prints = none_at r handle (find router_key handle r.routers) refl prints

pub ruleset generating = (high_fits, text_there, none_there)
