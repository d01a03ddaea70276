-- What the calls answer, by a router's handle and an interface's number.
use Rattle.std.specs.Prelude.{◌≡◌, ℕ, List, Option, None, Result, Ok, Err, Vec}
use Rattle.std.specs.Option.{option_map}
use Rattle.std.specs.declared.alloc.Global.{Global}
use Rattle.ixp_num_tables.specs.Tables.{find, if_there}
use Rattle.ixp_lang.specs.Trees.{ItemTree}
use Rattle.ixp_print.specs.Texts.{config_text}
use Rattle.ixp_registry.specs.Keys.{router_key}
use Rattle.ixp_registry.specs.Sessions.{session}
use Rattle.ixp_registry.specs.declared.registry.Registry.{Registry}
use Rattle.ixp_registry.specs.declared.router.Router.{Router}
use Rattle.ixp_compile.specs.declared.inputs.HeaderInputs.{HeaderInputs}
use Rattle.ixp_compile.specs.declared.inputs.Inputs.{Inputs}
use Rattle.ixp_compile.specs.Header.{header}
use Rattle.ixp_compile.specs.Generated.{header_inputs, inputs, generated, own_part}
use Rattle.ixp_compile_text.specs.declared.fault.GenFault.{GenFault}
use Rattle.ixp_compile_text.specs.declared.fault.GenFault.TheVariants.{NoRouter, NoSession, NoMemory}

-- the router with the handle
abbrev pub router_at : Registry → List ℕ → Option Router
router_at r handle = find router_key handle r.routers

abbrev pub header_inputs_at : Registry → List ℕ → Option HeaderInputs
header_inputs_at r handle = option_map (header_inputs r) (router_at r handle)

abbrev pub inputs_at : Registry → List ℕ → ℕ → Option Inputs
inputs_at r handle n = if_there (router_at r handle) None (λ q. option_map (inputs r q) (session r q n))

-- The trees of texts, or why there is none.

abbrev pub header_at : Registry → List ℕ → Result (List ItemTree) GenFault
header_at r handle = if_there (router_at r handle) (Err NoRouter) (λ q. Ok (header (header_inputs r q)))

abbrev pub generated_at : Registry → List ℕ → Result (List ItemTree) GenFault
generated_at r handle = if_there (router_at r handle) (Err NoRouter) (λ q. Ok (generated r q))

abbrev pub part_at : Registry → List ℕ → ℕ → Result (List ItemTree) GenFault
part_at r handle n =
    if_there (router_at r handle) (Err NoRouter)
    (λ q. if_there (session r q n) (Err NoSession) (λ s. Ok (own_part r q s)))

-- A call answers with the text of its tree, or for running out of memory; where there is no tree, it answers
-- why.
abbrev pub Prints : Result (List ItemTree) GenFault → Result (Vec ℕ Global) GenFault → Type 0
Prints (Err fault) answer = answer ≡ Err fault
Prints (Ok items) (Ok text) = text.items ≡ config_text items
Prints (Ok items) (Err fault) = fault ≡ NoMemory
