-- The printed text of items and of a configuration has their canonical tokens.
use Rattle.std.proofs.Common.{◌≡◌, ℕ, Bool, true, false, List, [], ◌∷◌, ◌++◌, codes, decimal, Option, Some, None, refl, sym, ap, ◌∙◌, subst}
use Rattle.ixp_num.specs.declared.addr.Addr.{Addr}
use Rattle.ixp_num.specs.declared.family.Family.{Family}
use Rattle.ixp_num.specs.declared.family.Family.TheVariants.{V4, V6}
use Rattle.ixp_num.specs.Printing.{addr_text}
use Rattle.ixp_num_tables.specs.Joined.{joined, more_joined}
use Rattle.ixp_lang.specs.declared.item.Kind.{Kind as TableKind}
use Rattle.ixp_lang.specs.declared.item.Kind.TheVariants as table
use Rattle.ixp_lang.specs.declared.item.Ty.{Ty}
use Rattle.ixp_lang.specs.declared.item.Ty.TheVariants as ty
use Rattle.ixp_lang.specs.declared.item.Use.{Use}
use Rattle.ixp_lang.specs.declared.item.Use.TheVariants.{All, Nothing, Named}
use Rattle.ixp_lang.specs.declared.item.Pipe.{Pipe}
use Rattle.ixp_lang.specs.declared.item.Bgp.{Bgp}
use Rattle.ixp_lang.specs.Trees.{StmtTrees, ItemTree, router_id_item, table_item, define_item, function_item, filter_item, device_item, pipe_item, bgp_item}
use Rattle.ixp_lang_tokens.specs.declared.token.Kind.{Kind}
use Rattle.ixp_lang_tokens.specs.declared.token.Mark.TheVariants as mark
use Rattle.ixp_lang_tokens.specs.Tokens.{HasTokens}
use Rattle.ixp_lang_tokens.specs.Words.{is_profile_word}
use Rattle.ixp_print.specs.Texts.{expr_text, stmts_text, line, body_text, param_text, ty_text, use_text, kind_text, channel_text, head_line, nameless_head, pipe_text, local_text, client_text, password_text, limit_text, bgp_channel_text, bgp_text, device_text, item_text, config_text}
use Rattle.ixp_lang_laws.specs.Canonical.{Before, word, name, number, sign, addr_tokens}
use Rattle.ixp_lang_laws.specs.CanonicalItems.{ty_tokens, body_tokens, param_tokens, more_params_tokens, params_tokens, use_tokens, table_tokens, head_tokens, pipe_tokens, asn_tokens, local_tokens, client_tokens, password_tokens, limit_tokens, channel_tokens, bgp_tokens, device_tokens, item_tokens, items_tokens, config_tokens}
use Rattle.ixp_lang_laws.specs.Printed.{AreWritten}
use Rattle.ixp_lang_laws.proofs.Steps.{Reads, reads_all, nothing_reads, parted, ends, name_reads, number_reads, addr_reads, text_reads, sign_reads}
use Rattle.ixp_lang_laws.proofs.PrintedSets.{Prints, IsWord}
use Rattle.ixp_lang_laws.proofs.PrintedExpressions.{close, expr_prints}
use Rattle.ixp_lang_laws.proofs.PrintedStatements.{Lines, Indent, line_reads, blank, word_blank, word_end, semicolon, open_block, close_line, stmts_prints}

flush : Indent []
flush rest behind reads = reads

two : Indent (codes "  ")
two rest behind reads = blank _ _ (blank rest behind reads)

four : Indent (codes "    ")
four rest behind reads = two _ _ (two rest behind reads)

-- a text in six parts
six_parts : (a b c d e f rest : List ℕ) (tokens : List Kind) → Reads (a ++ (b ++ (c ++ (d ++ (e ++ (f ++ rest)))))) tokens → Reads ((a ++ b ++ c ++ d ++ e ++ f) ++ rest) tokens
six_parts a b c d e f rest tokens reads =
    parted (a ++ b ++ c ++ d ++ e) f rest tokens
    (parted (a ++ b ++ c ++ d) e (f ++ rest) tokens
    (parted (a ++ b ++ c) d (e ++ (f ++ rest)) tokens
    (parted (a ++ b) c (d ++ (e ++ (f ++ rest))) tokens
    (parted a b (c ++ (d ++ (e ++ (f ++ rest)))) tokens reads))))

-- what ends a line

name_end : (n rest : List ℕ) (behind : List Kind) → Reads rest behind → Reads ((n ++ codes ";") ++ (10 ∷ rest)) (name n (sign mark.Semicolon behind))
name_end n rest behind reads = parted n (codes ";") (10 ∷ rest) _ (name_reads n _ _ refl (semicolon rest behind reads))

number_end : (n : ℕ) (rest : List ℕ) (behind : List Kind) → Reads rest behind → Reads ((decimal n ++ codes ";") ++ (10 ∷ rest)) (number n (sign mark.Semicolon behind))
number_end n rest behind reads = parted (decimal n) (codes ";") (10 ∷ rest) _ (number_reads n _ _ refl (semicolon rest behind reads))

addr_end : (a : Addr) (rest : List ℕ) (behind : List Kind) → Reads rest behind → Reads ((addr_text a ++ codes ";") ++ (10 ∷ rest)) (addr_tokens a (sign mark.Semicolon behind))
addr_end a rest behind reads = parted (addr_text a) (codes ";") (10 ∷ rest) _ (addr_reads a _ _ refl (semicolon rest behind reads))

-- Functions and filters.

ty_reads : (t : Ty) (rest : List ℕ) (behind : List Kind) → Reads rest behind → Reads (ty_text t ++ (32 ∷ rest)) (ty_tokens t behind)
unfolding is_profile_word
ty_reads ty.Int rest behind reads = word_blank (codes "int") rest behind (refl, refl, refl) reads
ty_reads ty.Bool rest behind reads = word_blank (codes "bool") rest behind (refl, refl, refl) reads
ty_reads ty.Ip rest behind reads = word_blank (codes "ip") rest behind (refl, refl, refl) reads
ty_reads ty.Prefix rest behind reads = word_blank (codes "prefix") rest behind (refl, refl, refl) reads
ty_reads ty.Pair rest behind reads = word_blank (codes "pair") rest behind (refl, refl, refl) reads
ty_reads ty.Lc rest behind reads = word_blank (codes "lc") rest behind (refl, refl, refl) reads
ty_reads ty.IntSet rest behind reads = word_blank (codes "int") _ _ (refl, refl, refl) (word_blank (codes "set") rest behind (refl, refl, refl) reads)
ty_reads ty.IpSet rest behind reads = word_blank (codes "ip") _ _ (refl, refl, refl) (word_blank (codes "set") rest behind (refl, refl, refl) reads)
ty_reads ty.PrefixSet rest behind reads = word_blank (codes "prefix") _ _ (refl, refl, refl) (word_blank (codes "set") rest behind (refl, refl, refl) reads)
ty_reads ty.PairSet rest behind reads = word_blank (codes "pair") _ _ (refl, refl, refl) (word_blank (codes "set") rest behind (refl, refl, refl) reads)
ty_reads ty.LcSet rest behind reads = word_blank (codes "lc") _ _ (refl, refl, refl) (word_blank (codes "set") rest behind (refl, refl, refl) reads)

param_prints : (p : Ty × List ℕ) → Prints (param_text p) (param_tokens p)
param_prints (t, n) rest behind stops reads = parted (ty_text t ++ codes " ") n rest _ (parted (ty_text t) (codes " ") (n ++ rest) _ (ty_reads t _ _ (name_reads n rest behind stops reads)))

more_params_reads : (ps : List (Ty × List ℕ)) (rest : List ℕ) (behind : List Kind) → ends rest ≡ true → Reads rest behind
    → (ends (more_joined (codes "; ") param_text ps ++ rest) ≡ true) × Reads (more_joined (codes "; ") param_text ps ++ rest) (more_params_tokens ps behind)
more_params_reads [] rest behind stops reads = (stops, reads)
more_params_reads (p ∷ ps) rest behind stops reads =
    let more = more_params_reads ps rest behind stops reads in
    (refl, sign_reads mark.Semicolon _ _ refl (blank _ _ (parted (param_text p) (more_joined (codes "; ") param_text ps) rest _ (param_prints p _ _ more.0 more.1))))

params_prints : (ps : List (Ty × List ℕ)) → Prints (joined (codes "; ") param_text ps) (params_tokens ps)
params_prints [] rest behind stops reads = reads
params_prints (p ∷ ps) rest behind stops reads =
    let more = more_params_reads ps rest behind stops reads in
    parted (param_text p) (more_joined (codes "; ") param_text ps) rest _ (param_prints p _ _ more.0 more.1)

body_prints : (head : List ℕ) (tokens : Before) → Prints head tokens → (ss : StmtTrees) → Lines (body_text head ss) (λ behind. tokens (body_tokens ss behind))
body_prints head tokens prints ss rest behind reads =
    parted (line [] (head ++ codes " {") ++ stmts_text (codes "  ") ss) (line [] (codes "}")) rest _
    (parted (line [] (head ++ codes " {")) (stmts_text (codes "  ") ss) (line [] (codes "}") ++ rest) _
    (line_reads [] (head ++ codes " {") _ _ flush
    (parted head (codes " {") _ _
    (prints _ _ refl (blank _ _ (open_block _ _ (stmts_prints (codes "  ") two ss _ _ (close_line [] flush rest behind reads))))))))

function_head : (n : List ℕ) (ps : List (Ty × List ℕ)) → Prints (codes "function " ++ n ++ codes "(" ++ joined (codes "; ") param_text ps ++ codes ")") (λ behind. word (codes "function") (name n (sign mark.Open (params_tokens ps (sign mark.Close behind)))))
unfolding is_profile_word
function_head n ps rest behind stops reads =
    word_blank (codes "function") _ _ (refl, refl, refl)
    (parted ((n ++ codes "(") ++ joined (codes "; ") param_text ps) (codes ")") rest _
    (parted (n ++ codes "(") (joined (codes "; ") param_text ps) (41 ∷ rest) _
    (parted n (codes "(") (joined (codes "; ") param_text ps ++ (41 ∷ rest)) _
    (name_reads n _ _ refl (sign_reads mark.Open _ _ refl (params_prints ps (41 ∷ rest) _ refl (close rest behind reads)))))))

filter_head : (n : List ℕ) → Prints (codes "filter " ++ n) (λ behind. word (codes "filter") (name n behind))
unfolding is_profile_word
filter_head n rest behind stops reads = word_blank (codes "filter") _ _ (refl, refl, refl) (name_reads n rest behind stops reads)

-- Protocols.

head_prints : (kind n : List ℕ) → IsWord kind → Lines (head_line kind n) (head_tokens kind n)
unfolding is_profile_word head_line
head_prints kind n is rest behind reads =
    line_reads [] _ rest _ flush
    (word_blank (codes "protocol") _ _ (refl, refl, refl)
    (parted ((kind ++ codes " ") ++ n) (codes " {") (10 ∷ rest) _
    (parted (kind ++ codes " ") n (32 ∷ 123 ∷ 10 ∷ rest) _
    (parted kind (codes " ") (n ++ (32 ∷ 123 ∷ 10 ∷ rest)) _
    (word_blank kind _ _ is (name_reads n _ _ refl (blank _ _ (open_block rest behind reads))))))))

table_line : (i : List ℕ) → Indent i → (n : List ℕ) → Lines (line i (codes "table " ++ n ++ codes ";")) (table_tokens n)
unfolding is_profile_word
table_line i indent n rest behind reads = line_reads i _ rest _ indent (word_blank (codes "table") _ _ (refl, refl, refl) (name_end n rest behind reads))

peer_line : (n : List ℕ) → Lines (line (codes "  ") (codes "peer table " ++ n ++ codes ";")) (λ behind. word (codes "peer") (table_tokens n behind))
unfolding is_profile_word
peer_line n rest behind reads =
    line_reads (codes "  ") _ rest _ two (word_blank (codes "peer") _ _ (refl, refl, refl) (word_blank (codes "table") _ _ (refl, refl, refl) (name_end n rest behind reads)))

use_reads : (u : Use) (rest : List ℕ) (behind : List Kind) → Reads rest behind → Reads ((use_text u ++ codes ";") ++ (10 ∷ rest)) (use_tokens u behind)
unfolding is_profile_word
use_reads All rest behind reads = word_end (codes "all") rest behind (refl, refl, refl) reads
use_reads Nothing rest behind reads = word_end (codes "none") rest behind (refl, refl, refl) reads
use_reads (Named n) rest behind reads = word_blank (codes "filter") _ _ (refl, refl, refl) (name_end n rest behind reads)

import_line : (i : List ℕ) → Indent i → (u : Use) → Lines (line i (codes "import " ++ use_text u ++ codes ";")) (λ behind. word (codes "import") (use_tokens u behind))
unfolding is_profile_word
import_line i indent u rest behind reads = line_reads i _ rest _ indent (word_blank (codes "import") _ _ (refl, refl, refl) (use_reads u rest behind reads))

export_line : (i : List ℕ) → Indent i → (u : Use) → Lines (line i (codes "export " ++ use_text u ++ codes ";")) (λ behind. word (codes "export") (use_tokens u behind))
unfolding is_profile_word
export_line i indent u rest behind reads = line_reads i _ rest _ indent (word_blank (codes "export") _ _ (refl, refl, refl) (use_reads u rest behind reads))

pipe_word : IsWord (codes "pipe")
unfolding is_profile_word
pipe_word = (refl, refl, refl)

pipe_prints : (p : Pipe) → Lines (pipe_text p) (pipe_tokens p)
pipe_prints p rest behind reads =
    six_parts (head_line (codes "pipe") p.name) (line (codes "  ") (codes "table " ++ p.table ++ codes ";")) (line (codes "  ") (codes "peer table " ++ p.peer ++ codes ";"))
    (line (codes "  ") (codes "import " ++ use_text p.import ++ codes ";")) (line (codes "  ") (codes "export " ++ use_text p.export ++ codes ";")) (line [] (codes "}")) rest _
    (head_prints (codes "pipe") p.name pipe_word _ _
    (table_line (codes "  ") two p.table _ _
    (peer_line p.peer _ _
    (import_line (codes "  ") two p.import _ _
    (export_line (codes "  ") two p.export _ _
    (close_line [] flush rest behind reads))))))

-- Sessions.

asn_reads : (a : Addr) (n : ℕ) (rest : List ℕ) (behind : List Kind) → Reads rest behind
    → Reads ((((addr_text a ++ codes " as ") ++ decimal n) ++ codes ";") ++ (10 ∷ rest)) (addr_tokens a (asn_tokens n behind))
unfolding is_profile_word
asn_reads a n rest behind reads =
    parted ((addr_text a ++ codes " as ") ++ decimal n) (codes ";") (10 ∷ rest) _
    (parted (addr_text a ++ codes " as ") (decimal n) (59 ∷ 10 ∷ rest) _
    (parted (addr_text a) (codes " as ") (decimal n ++ (59 ∷ 10 ∷ rest)) _
    (addr_reads a _ _ refl (blank _ _ (word_blank (codes "as") _ _ (refl, refl, refl) (number_reads n _ _ refl (semicolon rest behind reads)))))))

local_line : (l : Option Addr) (n : ℕ) → Lines (line (codes "  ") (local_text l ++ decimal n ++ codes ";")) (λ behind. word (codes "local") (local_tokens l (asn_tokens n behind)))
unfolding is_profile_word
local_line None n rest behind reads =
    line_reads (codes "  ") _ rest _ two (word_blank (codes "local") _ _ (refl, refl, refl) (word_blank (codes "as") _ _ (refl, refl, refl) (number_end n rest behind reads)))
local_line (Some a) n rest behind reads = line_reads (codes "  ") _ rest _ two (word_blank (codes "local") _ _ (refl, refl, refl) (asn_reads a n rest behind reads))

neighbor_line : (a : Addr) (n : ℕ) → Lines (line (codes "  ") (codes "neighbor " ++ addr_text a ++ codes " as " ++ decimal n ++ codes ";")) (λ behind. word (codes "neighbor") (addr_tokens a (asn_tokens n behind)))
unfolding is_profile_word
neighbor_line a n rest behind reads = line_reads (codes "  ") _ rest _ two (word_blank (codes "neighbor") _ _ (refl, refl, refl) (asn_reads a n rest behind reads))

client_prints : (b : Bool) → Lines (client_text b) (client_tokens b)
unfolding is_profile_word
client_prints true rest behind reads = line_reads (codes "  ") _ rest _ two (word_blank (codes "rs") _ _ (refl, refl, refl) (word_end (codes "client") rest behind (refl, refl, refl) reads))
client_prints false rest behind reads = reads

password_prints : (p : Option (List ℕ)) → Lines (password_text p) (password_tokens p)
unfolding is_profile_word
password_prints None rest behind reads = reads
password_prints (Some p) rest behind reads =
    line_reads (codes "  ") _ rest _ two
    (word_blank (codes "password") _ _ (refl, refl, refl) (parted (34 ∷ p) (codes "\";") (10 ∷ rest) _ (text_reads p (59 ∷ 10 ∷ rest) _ (semicolon rest behind reads))))

limit_prints : (n : Option ℕ) → Lines (limit_text n) (limit_tokens n)
unfolding is_profile_word
limit_prints None rest behind reads = reads
limit_prints (Some n) rest behind reads =
    line_reads (codes "    ") _ rest _ four
    (word_blank (codes "import") _ _ (refl, refl, refl)
    (word_blank (codes "limit") _ _ (refl, refl, refl)
    (parted (decimal n) (codes " action block;") (10 ∷ rest) _
    (number_reads n _ _ refl (blank _ _ (word_blank (codes "action") _ _ (refl, refl, refl) (word_end (codes "block") rest behind (refl, refl, refl) reads)))))))

channel_word : (f : Family) → IsWord (channel_text f)
unfolding is_profile_word
channel_word V4 = (refl, refl, refl)
channel_word V6 = (refl, refl, refl)

channel_line : (f : Family) → Lines (line (codes "  ") (channel_text f ++ codes " {")) (λ behind. word (channel_text f) (sign mark.BlockOpen behind))
channel_line f rest behind reads =
    line_reads (codes "  ") _ rest _ two (parted (channel_text f) (codes " {") (10 ∷ rest) _ (word_blank (channel_text f) _ _ (channel_word f) (open_block rest behind reads)))

channel_end : Lines (line (codes "  ") (codes "};")) (λ behind. sign mark.BlockClose (sign mark.Semicolon behind))
channel_end rest behind reads = line_reads (codes "  ") _ rest _ two (sign_reads mark.BlockClose _ _ refl (semicolon rest behind reads))

channel_prints : (b : Bgp) → Lines (bgp_channel_text b) (channel_tokens b)
channel_prints b rest behind reads =
    six_parts (line (codes "  ") (channel_text b.family ++ codes " {")) (line (codes "    ") (codes "table " ++ b.table ++ codes ";"))
    (line (codes "    ") (codes "import " ++ use_text b.import ++ codes ";")) (line (codes "    ") (codes "export " ++ use_text b.export ++ codes ";"))
    (limit_text b.limit) (line (codes "  ") (codes "};")) rest _
    (channel_line b.family _ _
    (table_line (codes "    ") four b.table _ _
    (import_line (codes "    ") four b.import _ _
    (export_line (codes "    ") four b.export _ _
    (limit_prints b.limit _ _
    (channel_end rest behind reads))))))

bgp_word : IsWord (codes "bgp")
unfolding is_profile_word
bgp_word = (refl, refl, refl)

bgp_prints : (b : Bgp) → Lines (bgp_text b) (bgp_tokens b)
bgp_prints b rest behind reads =
    parted (head_line (codes "bgp") b.name ++ line (codes "  ") (local_text b.local ++ decimal b.own.0 ++ codes ";")
    ++ line (codes "  ") (codes "neighbor " ++ addr_text b.neighbor ++ codes " as " ++ decimal b.asn.0 ++ codes ";") ++ client_text b.rs_client ++ password_text b.password ++ bgp_channel_text b) (line [] (codes "}")) rest _
    (six_parts (head_line (codes "bgp") b.name) (line (codes "  ") (local_text b.local ++ decimal b.own.0 ++ codes ";"))
    (line (codes "  ") (codes "neighbor " ++ addr_text b.neighbor ++ codes " as " ++ decimal b.asn.0 ++ codes ";")) (client_text b.rs_client) (password_text b.password) (bgp_channel_text b) (line [] (codes "}") ++ rest) _
    (head_prints (codes "bgp") b.name bgp_word _ _
    (local_line b.local b.own.0 _ _
    (neighbor_line b.neighbor b.asn.0 _ _
    (client_prints b.rs_client _ _
    (password_prints b.password _ _
    (channel_prints b _ _
    (close_line [] flush rest behind reads))))))))

device_prints : (n : Option (List ℕ)) → Lines (device_text n) (device_tokens n)
unfolding is_profile_word nameless_head
device_prints None rest behind reads =
    parted (line [] (codes "protocol device {")) (line [] (codes "}")) rest _
    (line_reads [] (codes "protocol device {") _ _ flush
    (word_blank (codes "protocol") _ _ (refl, refl, refl) (word_blank (codes "device") _ _ (refl, refl, refl) (open_block _ _ (close_line [] flush rest behind reads)))))
device_prints (Some n) rest behind reads =
    parted (head_line (codes "device") n) (line [] (codes "}")) rest _ (head_prints (codes "device") n (refl, refl, refl) _ _ (close_line [] flush rest behind reads))

-- Items.

kind_word : (k : TableKind) → IsWord (kind_text k)
unfolding is_profile_word
kind_word table.Ipv4 = (refl, refl, refl)
kind_word table.Ipv6 = (refl, refl, refl)
kind_word table.Roa4 = (refl, refl, refl)
kind_word table.Roa6 = (refl, refl, refl)

item_prints : (item : ItemTree) → Lines (item_text item) (item_tokens item)
unfolding is_profile_word
item_prints (router_id_item a) rest behind reads =
    line_reads [] _ rest _ flush (word_blank (codes "router") _ _ (refl, refl, refl) (word_blank (codes "id") _ _ (refl, refl, refl) (addr_end a rest behind reads)))
item_prints (table_item k n) rest behind reads =
    line_reads [] _ rest _ flush
    (parted ((kind_text k ++ codes " table ") ++ n) (codes ";") (10 ∷ rest) _
    (parted (kind_text k ++ codes " table ") n (59 ∷ 10 ∷ rest) _
    (parted (kind_text k) (codes " table ") (n ++ (59 ∷ 10 ∷ rest)) _
    (word_blank (kind_text k) _ _ (kind_word k) (word_blank (codes "table") _ _ (refl, refl, refl) (name_reads n _ _ refl (semicolon rest behind reads)))))))
item_prints (define_item n e) rest behind reads =
    line_reads [] _ rest _ flush
    (word_blank (codes "define") _ _ (refl, refl, refl)
    (parted ((n ++ codes " = ") ++ expr_text e) (codes ";") (10 ∷ rest) _
    (parted (n ++ codes " = ") (expr_text e) (59 ∷ 10 ∷ rest) _
    (parted n (codes " = ") (expr_text e ++ (59 ∷ 10 ∷ rest)) _
    (name_reads n _ _ refl (blank _ _ (sign_reads mark.Equal _ _ refl (blank _ _ (expr_prints e (59 ∷ 10 ∷ rest) _ refl (semicolon rest behind reads))))))))))
item_prints (function_item n ps ss) rest behind reads = body_prints (codes "function " ++ n ++ codes "(" ++ joined (codes "; ") param_text ps ++ codes ")") _ (function_head n ps) ss rest behind reads
item_prints (filter_item n ss) rest behind reads = body_prints (codes "filter " ++ n) _ (filter_head n) ss rest behind reads
item_prints (device_item n) rest behind reads = device_prints n rest behind reads
item_prints (pipe_item p) rest behind reads = pipe_prints p rest behind reads
item_prints (bgp_item b) rest behind reads = bgp_prints b rest behind reads

items_print : (c : List ItemTree) → Reads (config_text c) (items_tokens c [])
items_print [] = nothing_reads
items_print (i ∷ is) = item_prints i (config_text is) (items_tokens is []) (items_print is)

-- the printed text of a configuration has its canonical tokens
pub printed_law : (c : List ItemTree) → AreWritten (config_tokens c) → HasTokens (config_text c) (config_tokens c)
printed_law c written = reads_all (config_text c) (config_tokens c) (items_print c) written
