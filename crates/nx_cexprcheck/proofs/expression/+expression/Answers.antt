use Rattle.std.proofs.Common.{sym, ap, ◌∙◌}
use Rattle.std.proofs.lemmas.Result.{err_from_is_err_and}
use Rattle.nx_crules.specs.Rules.{conditional_rule, assign_rule, step_rule, index_place, deref_place}
use Rattle.nx_cleaves.specs.Operators.{before_rule, between_rule}
use Rattle.nx_cleaves.proofs.Given.{one_fails, one_given, both_first, both_second, both_given, two_fails, two_given, three_first, three_fails, three_given}
use Rattle.nx_cexprcheck.specs.Code.{expression_check, place_check, arguments_check}
use Rattle.nx_cexprcheck.proofs.Answered.{name_answered, size_answered, text_answered, number_answered, char_answered, type_answered, paren_answered, unary_answered, cast_answered, index_answered, address_answered, binary_answered, conditional_answered, before_answered, after_answered, assign_answered, call_answered, named_answered, element_answered, pointed_answered, plain_answered, entry_answered, other_answered}
use Rattle.nx_cexprcheck.proofs.Arguments.{left, none_done, stops, goes_on, all_done}
use Rattle.nx_cexprcheck.proofs.Called.{call_fails, call_given}
use Rattle.nx_cexprcheck.proofs.expression.+expression.Goals as goal

pub check_one-returns-in_err-a : goal.check_one-returns-in_err-a
check_one-returns-in_err-a t c = let p = err_from_is_err_and c.from_residual.result c.from_residual.ensures.1 in rw (p.1, p.2) (one_fails _ (before_rule c.args.op) c.args.line (expression_check c.args.names.now c.args.rows.now c.args.a.now) c.args.used.now c.in_err-a.ensures)

pub check_one-returns : goal.check_one-returns
check_one-returns t c = one_given (before_rule c.args.op) c.args.line (expression_check c.args.names.now c.args.rows.now c.args.a.now) c.args.used.now _ _ c.apply.result c.in_ok-a.ensures c.apply.ensures

pub check_pair-returns-in_err-a : goal.check_pair-returns-in_err-a
check_pair-returns-in_err-a t c = let p = err_from_is_err_and c.from_residual.result c.from_residual.ensures.1 in rw (p.1, p.2) (both_first _ (expression_check c.args.names.now c.args.rows.now c.args.a.now) (expression_check c.args.names.now c.args.rows.now c.args.b.now) c.args.used.now c.in_err-a.ensures)

pub check_pair-returns-in_err-b : goal.check_pair-returns-in_err-b
check_pair-returns-in_err-b t c = let p = err_from_is_err_and c.from_residual-in_err-b.result c.from_residual-in_err-b.ensures.1 in rw (p.1, p.2) (both_second _ (expression_check c.args.names.now c.args.rows.now c.args.a.now) (expression_check c.args.names.now c.args.rows.now c.args.b.now) c.args.used.now _ _ c.in_ok-a.ensures c.in_err-b.ensures)

pub check_pair-returns : goal.check_pair-returns
check_pair-returns t c = both_given (expression_check c.args.names.now c.args.rows.now c.args.a.now) (expression_check c.args.names.now c.args.rows.now c.args.b.now) c.args.used.now _ _ _ _ c.in_ok-a.ensures c.in_ok-b.ensures

pub check_two-returns-in_err-a : goal.check_two-returns-in_err-a
check_two-returns-in_err-a t c = let p = err_from_is_err_and c.from_residual.result c.from_residual.ensures.1 in rw (p.1, p.2) (two_fails (between_rule c.args.op) c.args.line _ (expression_check c.args.names.now c.args.rows.now c.args.a.now) (expression_check c.args.names.now c.args.rows.now c.args.b.now) c.args.used.now c.in_err-a.ensures)

pub check_two-returns : goal.check_two-returns
check_two-returns t c = two_given (between_rule c.args.op) c.args.line (expression_check c.args.names.now c.args.rows.now c.args.a.now) (expression_check c.args.names.now c.args.rows.now c.args.b.now) c.args.used.now _ _ _ c.combine.result c.in_ok-a.ensures c.combine.ensures

pub check_choice-returns-in_err-c : goal.check_choice-returns-in_err-c
check_choice-returns-in_err-c t c = let p = err_from_is_err_and c.from_residual.result c.from_residual.ensures.1 in rw (p.1, p.2) (three_first _ conditional_rule c.args.line (expression_check c.args.names.now c.args.rows.now c.args.c.now) (expression_check c.args.names.now c.args.rows.now c.args.a.now) (expression_check c.args.names.now c.args.rows.now c.args.b.now) c.args.used.now c.in_err-c.ensures)

pub check_choice-returns-in_err-a : goal.check_choice-returns-in_err-a
check_choice-returns-in_err-a t c = let p = err_from_is_err_and c.from_residual-in_err-a.result c.from_residual-in_err-a.ensures.1 in rw (p.1, p.2) (three_fails _ conditional_rule c.args.line (expression_check c.args.names.now c.args.rows.now c.args.c.now) (expression_check c.args.names.now c.args.rows.now c.args.a.now) (expression_check c.args.names.now c.args.rows.now c.args.b.now) c.args.used.now _ _ c.in_ok-c.ensures c.in_err-a.ensures)

pub check_choice-returns : goal.check_choice-returns
check_choice-returns t c = three_given conditional_rule c.args.line (expression_check c.args.names.now c.args.rows.now c.args.c.now) (expression_check c.args.names.now c.args.rows.now c.args.a.now) (expression_check c.args.names.now c.args.rows.now c.args.b.now) c.args.used.now _ _ _ _ _ c.conditional.result c.in_ok-c.ensures c.in_ok-a.ensures c.conditional.ensures

pub check_step-returns-in_err-p : goal.check_step-returns-in_err-p
check_step-returns-in_err-p t c = let p = err_from_is_err_and c.from_residual.result c.from_residual.ensures.1 in rw (p.1, p.2) (one_fails _ (step_rule c.args.value c.args.op) c.args.line (place_check c.args.names.now c.args.rows.now c.args.p.now) c.args.used.now c.in_err-p.ensures)

pub check_step-returns : goal.check_step-returns
check_step-returns t c = one_given (step_rule c.args.value c.args.op) c.args.line (place_check c.args.names.now c.args.rows.now c.args.p.now) c.args.used.now _ _ c.step.result c.in_ok-p.ensures c.step.ensures

pub check_assignment-returns-in_err-p : goal.check_assignment-returns-in_err-p
check_assignment-returns-in_err-p t c = let p = err_from_is_err_and c.from_residual.result c.from_residual.ensures.1 in rw (p.1, p.2) (two_fails (assign_rule c.args.op) c.args.line _ (place_check c.args.names.now c.args.rows.now c.args.p.now) (expression_check c.args.names.now c.args.rows.now c.args.e.now) c.args.used.now (both_first _ (place_check c.args.names.now c.args.rows.now c.args.p.now) (expression_check c.args.names.now c.args.rows.now c.args.e.now) c.args.used.now c.in_err-p.ensures))

pub check_assignment-returns-in_err-e : goal.check_assignment-returns-in_err-e
check_assignment-returns-in_err-e t c = let p = err_from_is_err_and c.from_residual-in_err-e.result c.from_residual-in_err-e.ensures.1 in rw (p.1, p.2) (two_fails (assign_rule c.args.op) c.args.line _ (place_check c.args.names.now c.args.rows.now c.args.p.now) (expression_check c.args.names.now c.args.rows.now c.args.e.now) c.args.used.now (both_second _ (place_check c.args.names.now c.args.rows.now c.args.p.now) (expression_check c.args.names.now c.args.rows.now c.args.e.now) c.args.used.now _ _ c.in_ok-p.ensures c.in_err-e.ensures))

pub check_assignment-returns : goal.check_assignment-returns
check_assignment-returns t c = two_given (assign_rule c.args.op) c.args.line (place_check c.args.names.now c.args.rows.now c.args.p.now) (expression_check c.args.names.now c.args.rows.now c.args.e.now) c.args.used.now _ _ _ c.assign.result (both_given (place_check c.args.names.now c.args.rows.now c.args.p.now) (expression_check c.args.names.now c.args.rows.now c.args.e.now) c.args.used.now _ _ _ _ c.in_ok-p.ensures c.in_ok-e.ensures) c.assign.ensures

pub check_element-returns-in_err-a : goal.check_element-returns-in_err-a
check_element-returns-in_err-a t c = let p = err_from_is_err_and c.from_residual.result c.from_residual.ensures.1 in rw (p.1, p.2) (two_fails index_place c.args.line _ (expression_check c.args.names.now c.args.rows.now c.args.a.now) (expression_check c.args.names.now c.args.rows.now c.args.i.now) c.args.used.now c.in_err-a.ensures)

pub check_element-returns : goal.check_element-returns
check_element-returns t c = two_given index_place c.args.line (expression_check c.args.names.now c.args.rows.now c.args.a.now) (expression_check c.args.names.now c.args.rows.now c.args.i.now) c.args.used.now _ _ _ c.place_at.result c.in_ok-a.ensures c.place_at.ensures

pub check_pointed-returns-in_err-a : goal.check_pointed-returns-in_err-a
check_pointed-returns-in_err-a t c = let p = err_from_is_err_and c.from_residual.result c.from_residual.ensures.1 in rw (p.1, p.2) (one_fails _ deref_place c.args.line (expression_check c.args.names.now c.args.rows.now c.args.a.now) c.args.used.now c.in_err-a.ensures)

pub check_pointed-returns : goal.check_pointed-returns
check_pointed-returns t c = one_given deref_place c.args.line (expression_check c.args.names.now c.args.rows.now c.args.a.now) c.args.used.now _ _ c.place_of.result c.in_ok-a.ensures c.place_of.ensures

pub check_expression-returns-in-Name : goal.check_expression-returns-in-Name
check_expression-returns-in-Name t c = name_answered _ _ c.args.e.now _ _ _ _ c.in-Name.is c.as_slice.ensures c.name_value.ensures

pub check_expression-returns-in-Number : goal.check_expression-returns-in-Number
check_expression-returns-in-Number t c = number_answered _ _ c.args.e.now _ _ _ c.in-Number.is c.number.ensures

pub check_expression-returns-in-Char : goal.check_expression-returns-in-Char
check_expression-returns-in-Char t c = char_answered _ _ c.args.e.now _ _ _ _ c.in-Char.is c.from.ensures c.number-in-Char.ensures

pub check_expression-returns-in-Text : goal.check_expression-returns-in-Text
check_expression-returns-in-Text t c = text_answered _ _ c.args.e.now _ _ _ _ _ c.in-Text.is c.as_slice-in-Text.ensures c.text.ensures

pub check_expression-returns-in-SizeOfName : goal.check_expression-returns-in-SizeOfName
check_expression-returns-in-SizeOfName t c = size_answered _ _ c.args.e.now _ _ _ _ c.in-SizeOfName.is c.as_slice-in-SizeOfName.ensures c.name_size.ensures

pub check_expression-returns-in-SizeOfType : goal.check_expression-returns-in-SizeOfType
check_expression-returns-in-SizeOfType t c = type_answered _ _ c.args.e.now _ _ _ _ c.in-SizeOfType.is c.base_bytes.ensures c.number-in-SizeOfType.ensures

pub check_expression-returns-in-Paren : goal.check_expression-returns-in-Paren
check_expression-returns-in-Paren t c = paren_answered _ _ c.args.e.now _ _ _ _ _ c.get.ensures c.in-Paren.is c.check_one.ensures

pub check_expression-returns-in-Unary : goal.check_expression-returns-in-Unary
check_expression-returns-in-Unary t c = unary_answered _ _ c.args.e.now _ _ _ _ _ c.get-in-Unary.ensures _ c.in-Unary.is c.check_one-in-Unary.ensures

pub check_expression-returns-in-Cast : goal.check_expression-returns-in-Cast
check_expression-returns-in-Cast t c = cast_answered _ _ c.args.e.now _ _ _ _ _ c.get-in-Cast.ensures _ _ c.in-Cast.is c.check_one-in-Cast.ensures

pub check_expression-returns-in-Index : goal.check_expression-returns-in-Index
check_expression-returns-in-Index t c = index_answered _ _ c.args.e.now _ _ _ _ _ _ _ c.get-in-Index.ensures c.get-in-Index-2.ensures c.in-Index.is c.check_two.ensures

pub check_expression-returns-in-AddressOf : goal.check_expression-returns-in-AddressOf
check_expression-returns-in-AddressOf t c = address_answered _ _ c.args.e.now _ _ _ _ _ _ _ c.get-in-AddressOf.ensures c.get-in-AddressOf-2.ensures c.in-AddressOf.is c.check_two-in-AddressOf.ensures

pub check_expression-returns-in-Binary : goal.check_expression-returns-in-Binary
check_expression-returns-in-Binary t c = binary_answered _ _ c.args.e.now _ _ _ _ _ _ _ c.get-in-Binary.ensures c.get-in-Binary-2.ensures _ c.in-Binary.is c.check_two-in-Binary.ensures

pub check_expression-returns-in-Conditional : goal.check_expression-returns-in-Conditional
check_expression-returns-in-Conditional t c = conditional_answered _ _ c.args.e.now _ _ _ _ _ _ _ _ _ c.get-in-Conditional.ensures c.get-in-Conditional-2.ensures c.get-in-Conditional-3.ensures c.in-Conditional.is c.check_choice.ensures

pub check_expression-returns-in-Before : goal.check_expression-returns-in-Before
check_expression-returns-in-Before t c = before_answered _ _ c.args.e.now _ _ _ _ _ c.get-in-Before.ensures _ c.in-Before.is c.check_step.ensures

pub check_expression-returns-in-After : goal.check_expression-returns-in-After
check_expression-returns-in-After t c = after_answered _ _ c.args.e.now _ _ _ _ _ c.get-in-After.ensures _ c.in-After.is c.check_step-in-After.ensures

pub check_expression-returns-in-Assign : goal.check_expression-returns-in-Assign
check_expression-returns-in-Assign t c = assign_answered _ _ c.args.e.now _ _ _ _ _ c.get-in-Assign.ensures _ _ _ c.get-in-Assign-2.ensures c.in-Assign.is c.check_assignment.ensures

pub check_expression-returns-in-Call : goal.check_expression-returns-in-Call
check_expression-returns-in-Call t c = call_answered _ _ c.args.e.now _ _ _ _ _ _ c.as_slice-in-Call.ensures c.in-Call.is c.check_call.ensures

pub check_place-returns-in-Name : goal.check_place-returns-in-Name
check_place-returns-in-Name t c = named_answered _ _ c.args.p.now _ _ _ _ c.in-Name.is c.as_slice.ensures c.name_place.ensures

pub check_place-returns-in-Index : goal.check_place-returns-in-Index
check_place-returns-in-Index t c = element_answered _ _ c.args.p.now _ _ _ _ _ _ _ c.get.ensures c.get-in-Index.ensures c.in-Index.is c.check_element.ensures

pub check_place-returns-in-Deref : goal.check_place-returns-in-Deref
check_place-returns-in-Deref t c = pointed_answered _ _ c.args.p.now _ _ _ _ _ c.get-in-Deref.ensures c.in-Deref.is c.check_pointed.ensures

pub check_argument-returns-then-not-starts : goal.check_argument-returns-then-not-starts
check_argument-returns-then-not-starts t c = plain_answered c.args.names.now c.args.rows.now c.args.starts c.args.e.now c.check_expression.result c.args.used.now c.check_expression.new.used c.if-not-starts.true c.check_expression.ensures

pub check_argument-returns-in-Some : goal.check_argument-returns-in-Some
check_argument-returns-in-Some t c = entry_answered c.args.names.now c.args.rows.now c.args.starts c.args.e.now c.args.e.now.line c.in-Some.name.now c.as_slice.result.now c.name_entry.result c.args.used.now c.if-not-starts.false c.in-Some.ensures c.as_slice.ensures c.name_entry.ensures

pub check_argument-returns-in-None : goal.check_argument-returns-in-None
check_argument-returns-in-None t c = other_answered c.args.names.now c.args.rows.now c.args.starts c.args.e.now c.check_expression-in-None.result c.args.used.now c.check_expression-in-None.new.used c.if-not-starts.false c.in-None.ensures c.check_expression-in-None.ensures

pub check_arguments-loop-argument-init : goal.check_arguments-loop-argument-init
check_arguments-loop-argument-init t c = ap (λ d. left c.args.names.now c.args.rows.now d c.args.starts c.args.arguments.now c.args.used.now) c.new-done.ensures.items ∙ none_done (arguments_check c.args.names.now c.args.rows.now c.args.starts c.args.arguments.now c.args.used.now)

pub check_arguments-returns-in_err-argument : goal.check_arguments-returns-in_err-argument
check_arguments-returns-in_err-argument t c = let p = err_from_is_err_and c.from_residual.result c.from_residual.ensures.1 in rw (p.1, p.2) (stops c.args.names.now c.args.rows.now _ c.loop-argument.done.items c.loop-argument.first c.args.arguments.now c.loop-argument.argument-index c.argument-item.result c.loop-argument.used _ c.loop-argument-test.true (sym c.argument-item.is) c.loop-argument.invariant c.in_err-argument.ensures)

pub check_arguments-returns-in_err-push : goal.check_arguments-returns-in_err-push
check_arguments-returns-in_err-push t c = let p = err_from_is_err_and c.from_residual-in_err-push.result c.from_residual-in_err-push.ensures.1 in rw (p.1, p.2) (tt)

pub check_arguments-loop-argument-preserved : goal.check_arguments-loop-argument-preserved
check_arguments-loop-argument-preserved t c = goes_on c.args.names.now c.args.rows.now c.loop-argument.done.items c.push.new.done.items c.loop-argument.first c.args.arguments.now c.loop-argument.argument-index c.argument-item.result c.loop-argument.used c.check_argument.new.used c.in_ok-argument.argument _ c.loop-argument-test.true (sym c.argument-item.is) c.loop-argument.invariant c.in_ok-push.ensures c.in_ok-argument.ensures

pub check_arguments-returns : goal.check_arguments-returns
check_arguments-returns t c = all_done c.args.names.now c.args.rows.now c.loop-argument.done.items c.loop-argument.first c.args.arguments.now c.loop-argument.argument-index c.loop-argument.used _ c.loop-argument-test.false c.loop-argument.invariant

pub check_call-returns-in_err-arguments : goal.check_call-returns-in_err-arguments
check_call-returns-in_err-arguments t c = let p = err_from_is_err_and c.from_residual.result c.from_residual.ensures.1 in rw (p.1, p.2) (call_fails c.args.names.now c.args.rows.now c.args.line (λ b. arguments_check c.args.names.now c.args.rows.now b c.args.arguments.now) c.args.used.now _ _ _ _ _ _ c.as_slice-name.ensures c.get-function.ensures c.place_in-place.ensures c.starts-starts.ensures c.in_err-arguments.ensures)

pub check_call-returns : goal.check_call-returns
check_call-returns t c = call_given c.args.names.now c.args.rows.now c.args.line (λ b. arguments_check c.args.names.now c.args.rows.now b c.args.arguments.now) c.args.used.now c.called.result _ _ _ _ _ _ _ _ c.as_slice-name.ensures c.get-function.ensures c.place_in-place.ensures c.starts-starts.ensures c.in_ok-arguments.ensures c.called.ensures
