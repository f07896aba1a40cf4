use Rattle.std.proofs.Common.{sym, ap}
use Rattle.nx_ctyping.specs.Verdicts.{name_of}
use Rattle.nx_cleaves.specs.NameAlone.{alone}
use Rattle.nx_cleaves.proofs.Forms.{at_name, at_number, at_char, at_text, at_paren, at_index, at_call, at_after, at_before, at_unary, at_address, at_size_of_name, at_size_of_type, at_cast, at_binary, at_conditional, at_assign}
use Rattle.nx_cleaves.proofs.leaves.name_alone.Goals as goal

pub returns-in-Name : goal.returns-in-Name
unfolding alone
returns-in-Name c = sym (ap name_of (at_name c.args.e.now _ c.in-Name.is))

pub returns-in-Number : goal.returns-in-Number
unfolding alone
returns-in-Number c = sym (ap name_of (at_number c.args.e.now _ c.in-Number.is))

pub returns-in-Char : goal.returns-in-Char
unfolding alone
returns-in-Char c = sym (ap name_of (at_char c.args.e.now _ c.in-Char.is))

pub returns-in-Text : goal.returns-in-Text
unfolding alone
returns-in-Text c = sym (ap name_of (at_text c.args.e.now _ c.in-Text.is))

pub returns-in-Paren : goal.returns-in-Paren
unfolding alone
returns-in-Paren c = sym (ap name_of (at_paren c.args.e.now _ c.in-Paren.is))

pub returns-in-Index : goal.returns-in-Index
unfolding alone
returns-in-Index c = sym (ap name_of (at_index c.args.e.now _ _ c.in-Index.is))

pub returns-in-Call : goal.returns-in-Call
unfolding alone
returns-in-Call c = sym (ap name_of (at_call c.args.e.now _ _ c.in-Call.is))

pub returns-in-After : goal.returns-in-After
unfolding alone
returns-in-After c = sym (ap name_of (at_after c.args.e.now _ _ c.in-After.is))

pub returns-in-Before : goal.returns-in-Before
unfolding alone
returns-in-Before c = sym (ap name_of (at_before c.args.e.now _ _ c.in-Before.is))

pub returns-in-Unary : goal.returns-in-Unary
unfolding alone
returns-in-Unary c = sym (ap name_of (at_unary c.args.e.now _ _ c.in-Unary.is))

pub returns-in-AddressOf : goal.returns-in-AddressOf
unfolding alone
returns-in-AddressOf c = sym (ap name_of (at_address c.args.e.now _ _ c.in-AddressOf.is))

pub returns-in-SizeOfName : goal.returns-in-SizeOfName
unfolding alone
returns-in-SizeOfName c = sym (ap name_of (at_size_of_name c.args.e.now _ c.in-SizeOfName.is))

pub returns-in-SizeOfType : goal.returns-in-SizeOfType
unfolding alone
returns-in-SizeOfType c = sym (ap name_of (at_size_of_type c.args.e.now _ c.in-SizeOfType.is))

pub returns-in-Cast : goal.returns-in-Cast
unfolding alone
returns-in-Cast c = sym (ap name_of (at_cast c.args.e.now _ _ _ c.in-Cast.is))

pub returns-in-Binary : goal.returns-in-Binary
unfolding alone
returns-in-Binary c = sym (ap name_of (at_binary c.args.e.now _ _ _ c.in-Binary.is))

pub returns-in-Conditional : goal.returns-in-Conditional
unfolding alone
returns-in-Conditional c = sym (ap name_of (at_conditional c.args.e.now _ _ _ c.in-Conditional.is))

pub returns-in-Assign : goal.returns-in-Assign
unfolding alone
returns-in-Assign c = sym (ap name_of (at_assign c.args.e.now _ _ _ c.in-Assign.is))
