-- The words of `serve`.
use Rattle.std.specs.Prelude.{ℕ, ◌-◌, ◌^◌, ◌==◌, ◌&&◌, List, Option, Some, None, codes, option_and_then, if◌then◌else◌}
use Rattle.ixp_num_tables.specs.Tables.{same}
use Rattle.ixp_num_tables.specs.Decimals.{number_upto}
use Rattle.ixp_cli_plain.specs.declared.command.Command.{Command}
use Rattle.ixp_cli_plain.specs.declared.command.Command.TheVariants.{Wait}
use Rattle.ixp_cli_plain.specs.declared.command.RtrPort.{RtrPort}
use Rattle.ixp_cli_plain.specs.declared.command.Waiting.TheVariants.{Serve}

-- the number that a word is: a decimal number from 1 to the greatest
abbrev pub number_in : ℕ → List ℕ → Option ℕ
number_in greatest word = option_and_then (λ n. if n == 0 then None else Some n) (number_upto greatest word)

-- the number of links that a word says: up to a million, or `always`, which is the last number of 64 bits
abbrev pub links_in : List ℕ → Option ℕ
links_in word = if same word (codes "always") then Some (2 ^ 64 - 1) else number_in 1000000 word

abbrev pub serve_of : Option ℕ → Option ℕ → Option ℕ → Option RtrPort → Option Command
serve_of None workers links routers = None
serve_of (Some port) None links routers = None
serve_of (Some port) (Some workers) None routers = None
serve_of (Some port) (Some workers) (Some links) routers = Some (Wait (Serve port workers links routers))

-- a port, a number of workers and a number of links, and what there is for routers
abbrev pub serve_with : List ℕ → List ℕ → List ℕ → Option RtrPort → Option Command
serve_with port workers links routers =
    serve_of (number_in 65535 port) (number_in 62 workers) (links_in links) routers

abbrev pub rtr_of : Option ℕ → Option ℕ → Option RtrPort
rtr_of None links = None
rtr_of (Some port) None = None
rtr_of (Some port) (Some links) = Some (record { port = port; links = links })

-- a port and a number of links for routers
abbrev pub rtr_port : List ℕ → List ℕ → Option RtrPort
rtr_port port links = rtr_of (number_in 65535 port) (links_in links)

-- both
abbrev pub serve_if : List ℕ → List ℕ → List ℕ → Option RtrPort → Option Command
serve_if port workers links None = None
serve_if port workers links (Some rtr) = serve_with port workers links (Some rtr)

abbrev pub serve_both : List ℕ → List ℕ → List ℕ → List ℕ → List ℕ → Option Command
serve_both port workers links rtr routers = serve_if port workers links (rtr_port rtr routers)

-- the command that the word is with these three
unfoldable pub serve_by : List ℕ → List ℕ → List ℕ → List ℕ → Option Command
serve_by word port workers links =
    if same word (codes "serve") then serve_with port workers links None else None

-- the command that the word is with these three, the word `rtr`, and two more
unfoldable pub serve_rtr_by : List ℕ → List ℕ → List ℕ → List ℕ → List ℕ → List ℕ → List ℕ → Option Command
serve_rtr_by word port workers links second rtr routers =
    if same word (codes "serve") && same second (codes "rtr") then serve_both port workers links rtr routers
    else None
