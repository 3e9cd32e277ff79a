mod CountedKeys
