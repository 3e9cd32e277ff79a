use Rattle.mirror_desk.proofs.requests.asked_by_task.Goals as goal

pub returns-in-Follow-clause-gives : goal.returns-in-Follow-clause-gives
returns-in-Follow-clause-gives c = λ body. rw c.in-Follow.is (c.followed.ensures.gives body)

pub returns-in-Change-clause-gives : goal.returns-in-Change-clause-gives
returns-in-Change-clause-gives c = λ body. rw c.in-Change.is (c.forbidden_to.ensures.gives body)

pub returns-in-Moderate-clause-gives : goal.returns-in-Moderate-clause-gives
returns-in-Moderate-clause-gives c = λ body. rw c.in-Moderate.is (c.forbidden_to-in-Moderate.ensures.gives body)
