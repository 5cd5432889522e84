-- The words of five bytes and more, which the tactics do not put together by themselves.
use Rattle.std.proofs.Common.{rules, arith, refl}
use Rattle.grammar.proofs.Runs.{read_kind}
use Rattle.grammar.proofs.words.kind_of.Goals as goal

pub returns-in-block : goal.returns-in-block
returns-in-block c = read_kind _ _ refl (omega arith) (search rules)

pub returns-in-arrow : goal.returns-in-arrow
returns-in-arrow c = read_kind _ _ refl (omega arith) (search rules)

pub returns-in-array : goal.returns-in-array
returns-in-array c = read_kind _ _ refl (omega arith) (search rules)

pub returns-in-deffn : goal.returns-in-deffn
returns-in-deffn c = read_kind _ _ refl (omega arith) (search rules)

pub returns-in-member : goal.returns-in-member
returns-in-member c = read_kind _ _ refl (omega arith) (search rules)

pub returns-in-module : goal.returns-in-module
returns-in-module c = read_kind _ _ refl (omega arith) (search rules)

pub returns-in-return : goal.returns-in-return
returns-in-return c = read_kind _ _ refl (omega arith) (search rules)

pub returns-in-assign : goal.returns-in-assign
returns-in-assign c = read_kind _ _ refl (omega arith) (search rules)

pub returns-in-import : goal.returns-in-import
returns-in-import c = read_kind _ _ refl (omega arith) (search rules)

pub returns-in-export : goal.returns-in-export
returns-in-export c = read_kind _ _ refl (omega arith) (search rules)

pub returns-in-tagged : goal.returns-in-tagged
returns-in-tagged c = read_kind _ _ refl (omega arith) (search rules)

pub returns-in-defexpr : goal.returns-in-defexpr
returns-in-defexpr c = read_kind _ _ refl (omega arith) (search rules)

pub returns-in-kwimport : goal.returns-in-kwimport
returns-in-kwimport c = read_kind _ _ refl (omega arith) (search rules)
