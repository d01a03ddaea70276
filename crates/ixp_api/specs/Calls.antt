-- Which call a request is.
use Rattle.std.specs.Prelude.{◌≡◌, ℕ, List, Result, Ok, Err}
use Rattle.std.specs.List.{All}
use Rattle.ixp_registry.specs.declared.edit_kind.EditKind.{EditKind}
use Rattle.ixp_machine_edits.specs.declared.edit.Edit.{Edit}
use Rattle.ixp_machine_steps.specs.declared.state.Entry.{Entry}
use Rattle.ixp_machine.specs.declared.question.Query.{Query}
use Rattle.ixp_machine.specs.declared.question.Query.TheVariants as query
use Rattle.ixp_lang.specs.declared.route.Route.{Route}
use Rattle.ixp_http.specs.declared.request.Request.{Request}
use Rattle.ixp_api_json.specs.declared.pointer.CallFault.{CallFault}
use Rattle.ixp_api_json.specs.declared.pointer.CallFault.TheVariants as fault
use Rattle.ixp_api_json.specs.declared.pointer.Pointer.TheVariants.{RequestNumber, Seen}
use Rattle.ixp_api_paths.specs.Table.{look}
use Rattle.ixp_api_paths.specs.declared.served.Found.{Found}
use Rattle.ixp_api_paths.specs.declared.served.Found.TheVariants as found
use Rattle.ixp_api_paths.specs.declared.table.Args.{Args}
use Rattle.ixp_api_paths.specs.declared.table.Kind.{Kind}
use Rattle.ixp_api_paths.specs.declared.table.Kind.TheVariants as kind
use Rattle.ixp_api_paths.specs.declared.table.Question.{Question}
use Rattle.ixp_api_paths.specs.declared.table.Question.TheVariants as question
use Rattle.ixp_api_bodies.specs.Answers.{must, read_then, ThenSays}
use Rattle.ixp_api_bodies.specs.declared.asked.RouteAsked.{RouteAsked}
use Rattle.ixp_api_bodies.specs.Asked.{SaysRoute}
use Rattle.ixp_api_bodies.specs.Bodies.{SaysEdit}
use Rattle.ixp_api_bodies.specs.Edits.{handle_in}
use Rattle.ixp_api_bodies.specs.Routes.{SaysRoutes, IsWellFormed}
use Rattle.ixp_api.specs.Heads.{secret_of, number_of, seen_of}
use Rattle.ixp_api.specs.declared.call.Call.{Call}
use Rattle.ixp_api.specs.declared.call.Call.TheVariants as call

abbrev pub Said : Type 0
Said = Result Call CallFault

-- an edit with its number and the secret of the request
abbrev pub Numbered : Request → ℕ → Result Edit CallFault → Said → Type 0
Numbered request number (Ok edit) r =
    (e : Entry) × (r ≡ Ok (call.Edit e)) × (e.secret ≡ secret_of request.fields) × (e.number ≡ number)
    × (e.edit ≡ edit)
Numbered request number (Err fault) r = r ≡ Err fault

-- an edit: its number is tested before its body
abbrev pub SaysCallOfEdit : EditKind → Args → Request → Said → Type 0
SaysCallOfEdit k args request r =
    ThenSays (must RequestNumber (number_of request.fields))
    (λ number x. (said : Result Edit CallFault) × SaysEdit k args request.body said
    × Numbered request number said x) r

abbrev pub query_of : Question → Args → Query
query_of question.Member args = query.Member args.row
query_of question.Contacts args = query.Contacts args.row
query_of question.Rules args = query.Rules args.row
query_of question.Use args = query.Use args.row args.family
query_of question.Ixf args = query.Ixf 0
query_of question.Dump args = query.Dump

-- the configuration of a router, where what was seen is a number of a request, or isn't said
abbrev pub published : Args → Request → Said
published args request =
    read_then (handle_in args.router) (λ router.
    read_then (must Seen (seen_of request.query)) (λ seen.
    Ok (call.Published (secret_of request.fields) router seen)))

-- what becomes of a route: the body is tested after what was seen
abbrev pub SaysExplain : Args → Request → Said → Type 0
SaysExplain args request r =
    ThenSays (handle_in args.router) (λ router.
    ThenSays (must Seen (seen_of request.query)) (λ seen x.
    (asked : Result RouteAsked CallFault) × SaysRoute request.body asked × (x ≡ read_then asked (λ a.
    Ok (call.Explain (record { secret = secret_of request.fields; router = router; interface = args.row; seen = seen; asked = a })))))) r

-- routes are to be held: the texts of the body are read, whatever their number
abbrev pub SaysHold : Args → Request → Said → Type 0
SaysHold args request r =
    ThenSays (handle_in args.router) (λ router x.
    (routes : Result (List Route) CallFault) × SaysRoutes request.body routes × (x ≡ read_then routes (λ rs.
    Ok (call.Hold (secret_of request.fields) router args.row rs)))) r

-- what becomes of the routes that are held of a session
abbrev pub glass : Args → Request → Said
glass args request = read_then (handle_in args.router)
    (λ router. Ok (call.Glass (secret_of request.fields) router args.row))

-- what becomes of the one at a place
abbrev pub glass_place : Args → Request → Said
glass_place args request =
    read_then (handle_in args.router) (λ router. Ok
    (call.GlassPlace (secret_of request.fields) router args.row args.place))

abbrev pub SaysCallOf : Kind → Args → Request → Said → Type 0
SaysCallOf (kind.Edit k) args request r = SaysCallOfEdit k args request r
SaysCallOf (kind.Ask q) args request r = r ≡ Ok (call.Ask (secret_of request.fields) (query_of q args))
SaysCallOf kind.Config args request r = r ≡ published args request
SaysCallOf kind.Explain args request r = SaysExplain args request r
SaysCallOf kind.Hold args request r = SaysHold args request r
SaysCallOf kind.Glass args request r = r ≡ glass args request
SaysCallOf kind.GlassPlace args request r = r ≡ glass_place args request

abbrev pub SaysFound : Found → Request → Said → Type 0
SaysFound found.NoPath request r = r ≡ Err fault.NoPath
SaysFound found.NoMethod request r = r ≡ Err fault.NoMethod
SaysFound (found.Call k args) request r = SaysCallOf k args request r

-- The call that a request is, or why it is none: its path is tested first, then its method, then the rest.
abbrev pub SaysCall : Request → Said → Type 0
SaysCall request r = SaysFound (look request.method request.path) request r

-- the routes that a call has held are well formed
abbrev pub HoldsWellFormed : Call → Type 0
HoldsWellFormed (call.Edit entry) = Unit {0}
HoldsWellFormed (call.Ask secret q) = Unit {0}
HoldsWellFormed (call.Published secret router seen) = Unit {0}
HoldsWellFormed (call.Explain explain) = Unit {0}
HoldsWellFormed (call.Hold secret router interface routes) = All IsWellFormed routes
HoldsWellFormed (call.Glass secret router interface) = Unit {0}
HoldsWellFormed (call.GlassPlace secret router interface place) = Unit {0}
