pub mod RulesBackwards
