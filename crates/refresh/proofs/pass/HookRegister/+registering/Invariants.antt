use Rattle.refresh.proofs.pass.HookRegister.+registering.Given as goal

-- the nesting left falls at each call
abbrev pub decreases-block : goal.decreases-block
decreases-block l = l.left

abbrev pub decreases-body : goal.decreases-body
decreases-body l = l.left

abbrev pub decreases-expression : goal.decreases-expression
decreases-expression l = l.left

abbrev pub decreases-function : goal.decreases-function
decreases-function l = l.left

abbrev pub decreases-parts : goal.decreases-parts
decreases-parts l = l.left

abbrev pub decreases-statement : goal.decreases-statement
decreases-statement l = l.left
