-- Pipes and BGP sessions: what is before the place where a reading of one stops is the front of one.
use Rattle.std.proofs.Common.{true, false, [], ◌∷◌, codes, None, refl}
use Rattle.ixp_lang_tokens.specs.declared.token.Kind.TheVariants as kind
use Rattle.ixp_lang_tokens.specs.declared.token.Mark.TheVariants as mark
use Rattle.ixp_lang_tokens.proofs.Fronts.{marked, keyword, name, text}
use Rattle.ixp_lang_tokens.proofs.Looks.{full_look, token_look}
use Rattle.ixp_lang_tokens.proofs.ClearLooks.{clear_takes}
use Rattle.ixp_lang_tokens.proofs.Whole.{Whole, whole_gives, whole_takes, whole_then, whole_sequence, whole_choice, whole_checks, whole_here, whole_wider}
use Rattle.ixp_lang_exprs.specs.Names.{Names}
use Rattle.ixp_lang_exprs.specs.Declarations.{free_name}
use Rattle.ixp_lang_exprs.proofs.WholeLists.{whole_mark, whole_word, whole_name, whole_number, whole_addr, whole_ended}
use Rattle.ixp_lang_protocols.specs.Protocols.{filter_name, use_form, ways_form, Owner, filler, peer_pipe, session, owned_table, device_end, ends_form, pipe_end, as_number_form, local_form, neighbor_form, client_form, string_in, password_form, limit_form, family_form, channel_form, peering_form, bgp_end, protocol_end}
use Rattle.ixp_lang_protocols.proofs.SureProtocols.{left_out, string_front}

pub whole_free_name : (names : Names) → Whole (free_name names) (free_name names) (token_look (name ∷ [])) []
whole_free_name names = whole_here (λ left. whole_then whole_name (λ found. whole_checks (whole_gives _)))

-- What is let through.

whole_filter_name : (names : Names) → Whole (filter_name names) (filter_name names) (token_look (name ∷ [])) []
whole_filter_name names = whole_here (λ left. whole_then whole_name (λ found. whole_checks (whole_gives _)))

whole_use : (names : Names) → Whole (use_form names) (use_form names) (token_look (keyword (codes "all") ∷ keyword (codes "none") ∷ keyword (codes "filter") ∷ [])) []
whole_use names =
    whole_choice (whole_then (whole_word (codes "all")) (λ x. whole_ended mark.Semicolon _))
    (whole_choice (whole_then (whole_word (codes "none")) (λ x. whole_ended mark.Semicolon _))
    (whole_then (whole_word (codes "filter")) (λ x. whole_then (whole_filter_name names) (λ found. whole_ended mark.Semicolon _))) refl refl) refl refl

whole_ways : (names : Names) → Whole (ways_form names) (ways_form names) (token_look (keyword (codes "import") ∷ [])) []
whole_ways names =
    whole_then (whole_word (codes "import")) (λ x.
    whole_then (whole_use names) (λ inward. whole_then (whole_word (codes "export")) (λ y. whole_then (whole_use names) (λ outward. whole_gives _))))

whole_owned : (owner : Owner) (names : Names) → Whole (owned_table owner names) (owned_table owner names) (token_look (keyword (codes "table") ∷ [])) []
whole_owned owner names =
    whole_then (whole_word (codes "table")) (λ x. whole_here (λ left. whole_then whole_name (λ found. whole_checks (whole_ended mark.Semicolon _))))

-- Devices and pipes.

whole_device : (names : Names) → Whole (device_end names) (device_end names) (token_look (marked mark.BlockOpen ∷ name ∷ [])) []
whole_device names =
    whole_choice (whole_then (whole_mark mark.BlockOpen) (λ y. whole_ended mark.BlockClose _))
    (whole_then (whole_free_name names) (λ found. whole_then (whole_mark mark.BlockOpen) (λ y. whole_ended mark.BlockClose _))) refl refl

whole_ends : (names : Names) → Whole (ends_form names) (ends_form names) (token_look (keyword (codes "table") ∷ [])) []
whole_ends names =
    whole_then (whole_owned filler names) (λ table. whole_then (whole_word (codes "peer")) (λ x. whole_then (whole_owned peer_pipe table.names) (λ peer. whole_gives _)))

whole_pipe : (names : Names) → Whole (pipe_end names) (pipe_end names) (token_look (name ∷ [])) []
whole_pipe names =
    whole_then (whole_free_name names) (λ found.
    whole_then (whole_mark mark.BlockOpen) (λ x. whole_then (whole_ends names) (λ ends. whole_then (whole_ways ends.names) (λ ways. whole_ended mark.BlockClose _))))

-- Sessions.

whole_asn : Whole as_number_form as_number_form (token_look (keyword (codes "as") ∷ [])) []
whole_asn = whole_then (whole_word (codes "as")) (λ x. whole_then whole_number (λ n. whole_ended mark.Semicolon _))

whole_local : Whole local_form local_form (token_look (keyword (codes "local") ∷ [])) []
whole_local =
    whole_then (whole_word (codes "local")) (λ x.
    whole_choice (whole_then whole_addr (λ a. whole_then whole_asn (λ asn. whole_gives _))) (whole_then whole_asn (λ asn. whole_gives _)) refl refl)

whole_neighbor : Whole neighbor_form neighbor_form (token_look (keyword (codes "neighbor") ∷ [])) []
whole_neighbor = whole_then (whole_word (codes "neighbor")) (λ x. whole_then whole_addr (λ a. whole_then whole_asn (λ asn. whole_gives _)))

-- what begins with the keyword, or is left out
whole_client : Whole client_form client_form (left_out (codes "rs")) []
whole_client = whole_choice (whole_then (whole_word (codes "rs")) (λ x. whole_then (whole_word (codes "client")) (λ y. whole_ended mark.Semicolon true))) (whole_gives false) refl refl

whole_password : Whole password_form password_form (left_out (codes "password")) []
whole_password =
    whole_choice
    (whole_then (whole_word (codes "password")) (λ x. whole_then (whole_takes (kind.Text []) [] refl (clear_takes string_in (text ∷ []) string_front)) (λ t. whole_ended mark.Semicolon _)))
    (whole_gives None) refl refl

whole_limit : Whole limit_form limit_form (left_out (codes "import")) []
whole_limit =
    whole_choice
    (whole_then (whole_word (codes "import")) (λ x.
    whole_then (whole_word (codes "limit")) (λ y.
    whole_then whole_number (λ n.
    whole_then (whole_word (codes "action")) (λ z. whole_then (whole_word (codes "block")) (λ w. whole_ended mark.Semicolon _))))))
    (whole_gives None) refl refl

whole_family : Whole family_form family_form (token_look (keyword (codes "ipv4") ∷ keyword (codes "ipv6") ∷ [])) []
whole_family = whole_choice (whole_then (whole_word (codes "ipv4")) (λ x. whole_gives _)) (whole_then (whole_word (codes "ipv6")) (λ x. whole_gives _)) refl refl

whole_channel : (names : Names) → Whole (channel_form names) (channel_form names) (token_look (keyword (codes "ipv4") ∷ keyword (codes "ipv6") ∷ [])) []
whole_channel names =
    whole_then whole_family (λ family.
    whole_then (whole_mark mark.BlockOpen) (λ x.
    whole_then (whole_owned session names) (λ table.
    whole_then (whole_ways table.names) (λ ways.
    whole_sequence whole_limit (λ limit. whole_then (whole_mark mark.BlockClose) (λ y. whole_ended mark.Semicolon _)) refl refl))))

whole_peering : Whole peering_form peering_form (full_look (keyword (codes "local") ∷ []) (keyword (codes "password") ∷ keyword (codes "rs") ∷ [])) []
whole_peering =
    whole_wider
    (whole_then whole_local (λ here_.
    whole_then whole_neighbor (λ there. whole_sequence whole_client (λ rs_client. whole_sequence whole_password (λ password. whole_gives _) refl refl) refl refl)))
    refl refl

whole_bgp : (names : Names) → Whole (bgp_end names) (bgp_end names) (token_look (name ∷ [])) []
whole_bgp names =
    whole_then (whole_free_name names) (λ found.
    whole_then (whole_mark mark.BlockOpen) (λ x. whole_sequence whole_peering (λ peering. whole_then (whole_channel names) (λ channel. whole_ended mark.BlockClose _)) refl refl))

pub whole_protocol_end : (names : Names) → Whole (protocol_end names) (protocol_end names) (token_look (keyword (codes "device") ∷ keyword (codes "pipe") ∷ keyword (codes "bgp") ∷ [])) []
whole_protocol_end names =
    whole_choice (whole_then (whole_word (codes "device")) (λ x. whole_device names))
    (whole_choice (whole_then (whole_word (codes "pipe")) (λ x. whole_pipe names)) (whole_then (whole_word (codes "bgp")) (λ x. whole_bgp names)) refl refl) refl refl
