-- The generated texts of a valid registry are sound.
use Rattle.std.proofs.Common.{◌≡◌, ℕ, true, List, [], ◌∷◌, map, append-nil, Some, sym, ap, ◌∙◌, subst}
use Rattle.std.specs.List.{AllByRecursion}
use Rattle.ixp_num_tables.specs.Tables.{find}
use Rattle.ixp_registry.specs.declared.registry.Registry.{Registry}
use Rattle.ixp_registry.specs.declared.router.Router.{Router}
use Rattle.ixp_registry.specs.Keys.{router_key}
use Rattle.ixp_registry.specs.Sessions.{Session, session}
use Rattle.ixp_registry.specs.Valid.{Valid}
use Rattle.ixp_compile.specs.Generated.{header_inputs, inputs, router_sessions, allowed_set, covered_set, session_part, footer, generated, own_part}
use Rattle.ixp_compile.specs.Header.{header}
use Rattle.ixp_compile.specs.Pieces.{in_turn}
use Rattle.ixp_compile.proofs.SessionsKept.{standing}
use Rattle.ixp_lang_laws.specs.SoundItems.{is_sound}
use Rattle.ixp_compile_laws.proofs.FromRows.{Fits, all_fit, all_at, bogons_lawful, sessions_fit, mapped_parts}
use Rattle.ixp_compile_laws.proofs.Whole.{generated_is_sound}

module _ (r : Registry) (handle : List ℕ) (router : Router) (valid : Valid r) (there : find router_key handle r.routers ≡ Some router) where
  pub whole_sound : is_sound (generated r router) ≡ true
  whole_sound =
      ap (λ parts. is_sound (in_turn (header (header_inputs r router) ∷ parts ∷ footer ∷ []))) (sym (mapped_parts session_part (inputs r router) (router_sessions r router)))
      ∙ generated_is_sound (header_inputs r router) (map (inputs r router) (router_sessions r router)) allowed_set covered_set
      (bogons_lawful r valid handle router there) (sessions_fit r valid handle router there)

  pub own_sound : (n : ℕ) (s : Session) → session r router n ≡ Some s → is_sound (own_part r router s) ≡ true
  own_sound n s e =
      let at = standing r router n s e in
      let fits = all_at (Fits r valid handle router there) at.0 s at.1 (subst (AllByRecursion (Fits r valid handle router there)) (sym at.2) (all_fit r valid handle router there)) in
      ap (λ part. is_sound (in_turn (header (header_inputs r router) ∷ part ∷ footer ∷ []))) (sym (append-nil (session_part (inputs r router s))))
      ∙ generated_is_sound (header_inputs r router) (inputs r router s ∷ []) allowed_set covered_set (bogons_lawful r valid handle router there) (fits, tt, tt)
