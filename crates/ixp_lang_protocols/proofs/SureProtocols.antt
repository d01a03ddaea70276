-- What is known of the grammar of pipes and BGP sessions.
use Rattle.std.proofs.Common.{◌≡◌, ℕ, true, false, List, [], ◌∷◌, codes, None, refl}
use Rattle.std.specs.Option.{is_some}
use Rattle.ixp_lang_tokens.specs.declared.token.Kind.{Kind}
use Rattle.ixp_lang_tokens.specs.declared.token.Kind.TheVariants as kind
use Rattle.ixp_lang_tokens.specs.declared.token.Mark.TheVariants as mark
use Rattle.ixp_lang_tokens.proofs.Fronts.{marked, keyword, name, text, one_of}
use Rattle.ixp_lang_tokens.proofs.Looks.{Look, full_look, token_look}
use Rattle.ixp_lang_tokens.proofs.ClearLooks.{clear_gives, clear_takes, clear_mark, clear_name, clear_number, clear_addr, clear_sequence, clear_then, clear_choice, clear_checks, clear_here, clear_wider}
use Rattle.ixp_lang_exprs.specs.Names.{Names}
use Rattle.ixp_lang_exprs.proofs.ClearLists.{clear_ended}
use Rattle.ixp_lang_exprs.proofs.Sure.{First, clear_word, clear_free_name}
use Rattle.ixp_lang_protocols.specs.Protocols.{filter_name, use_form, ways_form, Owner, filler, peer_pipe, session, owned_table, device_end, ends_form, pipe_end, as_number_form, local_form, neighbor_form, client_form, string_in, password_form, limit_form, family_form, channel_form, peering_form, bgp_end, protocol_end}

-- What is let through.

first_filter_name : (names : Names) → First (filter_name names) (token_look (name ∷ []))
first_filter_name names = clear_here (λ left. clear_then clear_name (λ found. clear_checks (clear_gives _)))

first_use : (names : Names) → First (use_form names) (token_look (keyword (codes "all") ∷ keyword (codes "none") ∷ keyword (codes "filter") ∷ []))
first_use names =
    clear_choice (clear_then (clear_word (codes "all")) (λ x. clear_ended mark.Semicolon _))
    (clear_choice (clear_then (clear_word (codes "none")) (λ x. clear_ended mark.Semicolon _))
    (clear_then (clear_word (codes "filter")) (λ x. clear_then (first_filter_name names) (λ found. clear_ended mark.Semicolon _))) refl refl) refl refl

first_ways : (names : Names) → First (ways_form names) (token_look (keyword (codes "import") ∷ []))
first_ways names =
    clear_then (clear_word (codes "import")) (λ x.
    clear_then (first_use names) (λ inward. clear_then (clear_word (codes "export")) (λ y. clear_then (first_use names) (λ outward. clear_gives _))))

first_owned : (owner : Owner) (names : Names) → First (owned_table owner names) (token_look (keyword (codes "table") ∷ []))
first_owned owner names =
    clear_then (clear_word (codes "table")) (λ x. clear_here (λ left. clear_then clear_name (λ found. clear_checks (clear_ended mark.Semicolon _))))

-- Devices and pipes.

first_device : (names : Names) → First (device_end names) (token_look (marked mark.BlockOpen ∷ name ∷ []))
first_device names =
    clear_choice (clear_then (clear_mark mark.BlockOpen) (λ y. clear_ended mark.BlockClose _))
    (clear_then (clear_free_name names) (λ found. clear_then (clear_mark mark.BlockOpen) (λ y. clear_ended mark.BlockClose _))) refl refl

first_ends : (names : Names) → First (ends_form names) (token_look (keyword (codes "table") ∷ []))
first_ends names =
    clear_then (first_owned filler names) (λ table. clear_then (clear_word (codes "peer")) (λ x. clear_then (first_owned peer_pipe table.names) (λ peer. clear_gives _)))

first_pipe : (names : Names) → First (pipe_end names) (token_look (name ∷ []))
first_pipe names =
    clear_then (clear_free_name names) (λ found.
    clear_then (clear_mark mark.BlockOpen) (λ x. clear_then (first_ends names) (λ ends. clear_then (first_ways ends.names) (λ ways. clear_ended mark.BlockClose _))))

-- Sessions.

first_asn : First as_number_form (token_look (keyword (codes "as") ∷ []))
first_asn = clear_then (clear_word (codes "as")) (λ x. clear_then clear_number (λ n. clear_ended mark.Semicolon _))

first_local : First local_form (token_look (keyword (codes "local") ∷ []))
first_local =
    clear_then (clear_word (codes "local")) (λ x.
    clear_choice (clear_then clear_addr (λ a. clear_then first_asn (λ asn. clear_gives _))) (clear_then first_asn (λ asn. clear_gives _)) refl refl)

first_neighbor : First neighbor_form (token_look (keyword (codes "neighbor") ∷ []))
first_neighbor = clear_then (clear_word (codes "neighbor")) (λ x. clear_then clear_addr (λ a. clear_then first_asn (λ asn. clear_gives _)))

-- what begins with the keyword, or is left out
abbrev pub left_out : List ℕ → Look
left_out w = record { leads = false; full = false; starts = keyword w ∷ []; ends = keyword w ∷ [] }

first_client : First client_form (left_out (codes "rs"))
first_client = clear_choice (clear_then (clear_word (codes "rs")) (λ x. clear_then (clear_word (codes "client")) (λ y. clear_ended mark.Semicolon true))) (clear_gives false) refl refl

pub string_front : (k : Kind) → is_some (string_in k) ≡ true → one_of (text ∷ []) k ≡ true
string_front (kind.Text t) e = refl
string_front k e = absurd cc

first_password : First password_form (left_out (codes "password"))
first_password =
    clear_choice
    (clear_then (clear_word (codes "password")) (λ x. clear_then (clear_takes string_in (text ∷ []) string_front) (λ t. clear_ended mark.Semicolon _)))
    (clear_gives None) refl refl

first_limit : First limit_form (left_out (codes "import"))
first_limit =
    clear_choice
    (clear_then (clear_word (codes "import")) (λ x.
    clear_then (clear_word (codes "limit")) (λ y.
    clear_then clear_number (λ n.
    clear_then (clear_word (codes "action")) (λ z. clear_then (clear_word (codes "block")) (λ w. clear_ended mark.Semicolon _))))))
    (clear_gives None) refl refl

first_family : First family_form (token_look (keyword (codes "ipv4") ∷ keyword (codes "ipv6") ∷ []))
first_family = clear_choice (clear_then (clear_word (codes "ipv4")) (λ x. clear_gives _)) (clear_then (clear_word (codes "ipv6")) (λ x. clear_gives _)) refl refl

first_channel : (names : Names) → First (channel_form names) (token_look (keyword (codes "ipv4") ∷ keyword (codes "ipv6") ∷ []))
first_channel names =
    clear_then first_family (λ family.
    clear_then (clear_mark mark.BlockOpen) (λ x.
    clear_then (first_owned session names) (λ table.
    clear_then (first_ways table.names) (λ ways.
    clear_sequence first_limit (λ limit. clear_then (clear_mark mark.BlockClose) (λ y. clear_ended mark.Semicolon _)) refl))))

first_peering : First peering_form (full_look (keyword (codes "local") ∷ []) (keyword (codes "password") ∷ keyword (codes "rs") ∷ []))
first_peering =
    clear_wider
    (clear_then first_local (λ here_.
    clear_then first_neighbor (λ there. clear_sequence first_client (λ rs_client. clear_sequence first_password (λ password. clear_gives _) refl) refl)))
    refl refl

first_bgp : (names : Names) → First (bgp_end names) (token_look (name ∷ []))
first_bgp names =
    clear_then (clear_free_name names) (λ found.
    clear_then (clear_mark mark.BlockOpen) (λ x. clear_sequence first_peering (λ peering. clear_then (first_channel names) (λ channel. clear_ended mark.BlockClose _)) refl))

pub first_protocol_end : (names : Names) → First (protocol_end names) (token_look (keyword (codes "device") ∷ keyword (codes "pipe") ∷ keyword (codes "bgp") ∷ []))
first_protocol_end names =
    clear_choice (clear_then (clear_word (codes "device")) (λ x. first_device names))
    (clear_choice (clear_then (clear_word (codes "pipe")) (λ x. first_pipe names)) (clear_then (clear_word (codes "bgp")) (λ x. first_bgp names)) refl refl) refl refl
