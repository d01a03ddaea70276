-- The texts of a router's sessions, each by itself.
use Rattle.std.specs.Prelude.{List, Option, option_map, filter_map}
use Rattle.ixp_print.specs.Texts.{config_text}
use Rattle.ixp_registry.specs.Sessions.{Session, session_at}
use Rattle.ixp_registry.specs.declared.network.Interface.{Interface}
use Rattle.ixp_registry.specs.declared.registry.Registry.{Registry}
use Rattle.ixp_registry.specs.declared.router.Router.{Router}
use Rattle.ixp_compile.specs.Generated.{inputs, session_part}
use Rattle.ixp_compile_text.specs.declared.parts.SessionText.{SessionText}

-- the text of the part of the interface's session, where it has one
abbrev pub session_text_of : Registry → Router → Interface → Option Session → Option SessionText
session_text_of r router i =
    option_map (λ s. record { interface = i.number; text = config_text (session_part (inputs r router s)) })

abbrev pub session_text_at : Registry → Router → Interface → Option SessionText
session_text_at r router i = session_text_of r router i (session_at r router i)

-- the texts of the parts of all sessions, by number of interface
abbrev pub texts_by_session : Registry → Router → List SessionText
texts_by_session r router = filter_map (session_text_at r router) r.interfaces
