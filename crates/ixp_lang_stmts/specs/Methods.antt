-- Methods of attributes (BIRD 2 User's Guide, chapter "Filters", control structures).
use Rattle.ixp_lang.specs.Trees.{StmtTree, ExprTree, prepend, add_pair, delete_pairs, add_triple, delete_triples}
use Rattle.ixp_lang_stmts.specs.declared.change.Method.{Method}
use Rattle.ixp_lang_stmts.specs.declared.change.Method.TheVariants.{Prepend, AddPair, DeletePairs, AddTriple, DeleteTriples}

-- the statement that calls the method with a value
abbrev pub method_call : Method → ExprTree → StmtTree
method_call Prepend = prepend
method_call AddPair = add_pair
method_call DeletePairs = delete_pairs
method_call AddTriple = add_triple
method_call DeleteTriples = delete_triples
