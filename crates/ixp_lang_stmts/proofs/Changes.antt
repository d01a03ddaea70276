-- The steps of the reader of statements that return nothing.
use Rattle.std.proofs.Common.{◌≡◌, ℕ, false, List, codes, Some, None, ◌∙◌}
use Rattle.ixp_lang.specs.Trees.{StmtTree, accept, reject}
use Rattle.ixp_lang_tokens.specs.declared.token.Kind.{Kind}
use Rattle.ixp_lang_tokens.specs.Grammars.{Grammar, choice}
use Rattle.ixp_lang_tokens.specs.Reading.{read, begins}
use Rattle.ixp_lang_tokens.specs.declared.token.Mark.TheVariants.{Semicolon}
use Rattle.ixp_lang_tokens.specs.Pieces.{is_word, behind, a_name}
use Rattle.ixp_lang_exprs.specs.Lists.{ended}
use Rattle.ixp_lang_exprs.specs.Expressions.{Place}
use Rattle.ixp_lang_stmts.specs.Statements.{call_form, next_hop_end, prepend_end, pairs_end, triples_end, verdict_form, change_form}
use Rattle.ixp_lang_stmts.proofs.Choices.{begun, known, unknown, taken_second}

module _ (at : Place) (levels : ℕ) (ts : List Kind) where
  abbrev from_accept : Grammar StmtTree
  from_accept = choice (verdict_form (codes "accept") accept) (verdict_form (codes "reject") reject)

  abbrev from_triples : Grammar StmtTree
  from_triples = choice (begun (is_word (codes "bgp_large_community")) (triples_end at levels)) from_accept

  abbrev from_pairs : Grammar StmtTree
  from_pairs = choice (begun (is_word (codes "bgp_community")) (pairs_end at levels)) from_triples

  abbrev from_path : Grammar StmtTree
  from_path = choice (begun (is_word (codes "bgp_path")) (prepend_end at levels)) from_pairs

  abbrev from_hop : Grammar StmtTree
  from_hop = choice (begun (is_word (codes "bgp_next_hop")) (next_hop_end at levels)) from_path

  no_call : begins a_name ts ≡ false → read (change_form at levels) ts ≡ read from_hop ts
  unfolding change_form
  no_call e = taken_second (call_form at levels) from_hop ts e

  no_hop : begins a_name ts ≡ false → behind (is_word (codes "bgp_next_hop")) ts ≡ None → read (change_form at levels) ts ≡ read from_path ts
  no_hop e hop = no_call e ∙ unknown (is_word (codes "bgp_next_hop")) (next_hop_end at levels) from_path ts hop

  pub path_known : (rest : List Kind) → begins a_name ts ≡ false → behind (is_word (codes "bgp_next_hop")) ts ≡ None → behind (is_word (codes "bgp_path")) ts ≡ Some rest
      → read (change_form at levels) ts ≡ read (prepend_end at levels) rest
  path_known rest e hop path = no_hop e hop ∙ known (is_word (codes "bgp_path")) (prepend_end at levels) from_pairs ts rest path

  no_path : begins a_name ts ≡ false → behind (is_word (codes "bgp_next_hop")) ts ≡ None → behind (is_word (codes "bgp_path")) ts ≡ None → read (change_form at levels) ts ≡ read from_pairs ts
  no_path e hop path = no_hop e hop ∙ unknown (is_word (codes "bgp_path")) (prepend_end at levels) from_pairs ts path

  pub pairs_known : (rest : List Kind) → begins a_name ts ≡ false → behind (is_word (codes "bgp_next_hop")) ts ≡ None → behind (is_word (codes "bgp_path")) ts ≡ None
      → behind (is_word (codes "bgp_community")) ts ≡ Some rest → read (change_form at levels) ts ≡ read (pairs_end at levels) rest
  pairs_known rest e hop path pairs = no_path e hop path ∙ known (is_word (codes "bgp_community")) (pairs_end at levels) from_triples ts rest pairs

  no_pairs : begins a_name ts ≡ false → behind (is_word (codes "bgp_next_hop")) ts ≡ None → behind (is_word (codes "bgp_path")) ts ≡ None → behind (is_word (codes "bgp_community")) ts ≡ None
      → read (change_form at levels) ts ≡ read from_triples ts
  no_pairs e hop path pairs = no_path e hop path ∙ unknown (is_word (codes "bgp_community")) (pairs_end at levels) from_triples ts pairs

  pub triples_known : (rest : List Kind) → begins a_name ts ≡ false → behind (is_word (codes "bgp_next_hop")) ts ≡ None → behind (is_word (codes "bgp_path")) ts ≡ None
      → behind (is_word (codes "bgp_community")) ts ≡ None → behind (is_word (codes "bgp_large_community")) ts ≡ Some rest → read (change_form at levels) ts ≡ read (triples_end at levels) rest
  triples_known rest e hop path pairs triples =
      no_pairs e hop path pairs ∙ known (is_word (codes "bgp_large_community")) (triples_end at levels) from_accept ts rest triples

  pub reject_left : begins a_name ts ≡ false → behind (is_word (codes "bgp_next_hop")) ts ≡ None → behind (is_word (codes "bgp_path")) ts ≡ None
      → behind (is_word (codes "bgp_community")) ts ≡ None → behind (is_word (codes "bgp_large_community")) ts ≡ None → behind (is_word (codes "accept")) ts ≡ None
      → read (change_form at levels) ts ≡ read (verdict_form (codes "reject") reject) ts
  reject_left e hop path pairs triples taken =
      no_pairs e hop path pairs ∙ unknown (is_word (codes "bgp_large_community")) (triples_end at levels) from_accept ts triples
      ∙ unknown (is_word (codes "accept")) (ended Semicolon accept) (verdict_form (codes "reject") reject) ts taken
